use Rattle.std.proofs.Common.{ℕ, List, ◌∙◌}
use Rattle.std.proofs.lemmas.Result.{IfOk-weaker}
use Rattle.tables.specs.Partials.{of_piece}
use Rattle.tables.specs.Pieces.{IndexedPiece}
use Rattle.tables.proofs.job.JobByWork.piece.Goals as goal

pub returns : goal.returns
returns g c =
    let piece : ℕ → List ℕ → IndexedPiece = λ index bytes. record { index = index; bytes = bytes } in
    IfOk-weaker c.fold_piece_by.result _ _
    (λ partial is. is ∙ (λ k. of_piece c.args.self.now.job.plan.now (piece (c.index.ensures k) (c.bytes.ensures.bytes k)))) c.fold_piece_by.ensures
