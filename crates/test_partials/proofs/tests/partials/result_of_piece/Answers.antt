use Rattle.std.proofs.Common.{[], ◌∷◌}
use Rattle.std.proofs.lemmas.Result.{IfOk-weaker}
use Rattle.test_partials.proofs.tests.partials.result_of_piece.Goals as goal

pub returns : goal.returns
returns c = IfOk-weaker c.fold_piece.result _ _ (λ partial is. ∣ (record { index = c.args.index; bytes = c.args.bytes.now } ∷ [], is) ∣₁) c.fold_piece.ensures
