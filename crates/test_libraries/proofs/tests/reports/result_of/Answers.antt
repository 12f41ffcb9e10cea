use Rattle.std.proofs.Common.{[], ◌∷◌}
use Rattle.std.proofs.lemmas.Result.{IfOk-weaker}
use Rattle.test_libraries.proofs.tests.reports.result_of.Goals as goal

pub returns : goal.returns
returns c = IfOk-weaker c.fold_piece.result _ _ (λ partial is. ∣ (record { index = 0; bytes = c.args.lines.now } ∷ [], is) ∣₁) c.fold_piece.ensures
