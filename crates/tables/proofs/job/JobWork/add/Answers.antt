use Rattle.std.proofs.Common.{ℕ, List, ◌∙◌, ap}
use Rattle.std.proofs.lemmas.Result.{IfOk-weaker}
use Rattle.tables.specs.Partials.{both, of_piece}
use Rattle.tables.specs.Pieces.{IndexedPiece}
use Rattle.tables.proofs.job.JobWork.add.Goals as goal

pub fold_onto-requires-clause-of_plan : goal.fold_onto-requires-clause-of_plan
fold_onto-requires-clause-of_plan c = ∣ c.requires.part ∣₁

pub returns : goal.returns
returns c =
    let piece : List ℕ → IndexedPiece = λ bytes. record { index = c.args.i; bytes = bytes } in
    IfOk-weaker c.fold_onto.result _ _ (λ partial is. is ∙ ap (λ bytes. both c.args.part (of_piece c.args.self.now.plan.now (piece bytes))) c.bytes.ensures.bytes) c.fold_onto.ensures
