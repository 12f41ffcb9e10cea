use Rattle.std.proofs.Common.{ℕ, List, ◌∙◌}
use Rattle.std.proofs.lemmas.Result.{IfOk-weaker}
use Rattle.tables.specs.Partials.{both, of_piece}
use Rattle.tables.specs.Pieces.{IndexedPiece}
use Rattle.tables.proofs.job.JobByWork.add.Goals as goal

pub fold_onto-requires-clause-of_plan : goal.fold_onto-requires-clause-of_plan
fold_onto-requires-clause-of_plan g c = ∣ c.requires.part ∣₁

pub returns : goal.returns
returns g c =
    let piece : ℕ → List ℕ → IndexedPiece = λ index bytes. record { index = index; bytes = bytes } in
    IfOk-weaker c.fold_onto.result _ _
    (λ partial is. is ∙ (λ k. both c.args.part (of_piece c.args.self.now.job.plan.now (piece (c.index.ensures k) (c.bytes.ensures.bytes k))))) c.fold_onto.ensures
