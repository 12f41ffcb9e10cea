use Rattle.std.proofs.Common.{ℕ, List, ◌∙◌, ap}
use Rattle.std.proofs.lemmas.Result.{IfOk-weaker}
use Rattle.tables.specs.Partials.{of_piece}
use Rattle.tables.specs.Pieces.{IndexedPiece}
use Rattle.tables.proofs.job.JobWork.piece.Goals as goal

pub returns : goal.returns
returns c =
    let piece : List ℕ → IndexedPiece = λ bytes. record { index = c.args.i; bytes = bytes } in
    IfOk-weaker c.fold_piece.result _ _ (λ partial is. is ∙ ap (λ bytes. of_piece c.args.self.now.plan.now (piece bytes)) c.bytes.ensures.bytes) c.fold_piece.ensures
