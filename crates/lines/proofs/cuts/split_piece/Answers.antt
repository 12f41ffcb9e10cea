use Rattle.lines.proofs.CutLemmas.{lines_first_piece}
use Rattle.lines.proofs.cuts.split_piece.Goals as goal

pub returns-clause-lines : goal.returns-clause-lines
returns-clause-lines c =
    rw (c.split_at.ensures.front, c.split_at.ensures.back)
    (lines_first_piece c.args.bytes.now c.args.target c.stop_of.result c.requires c.stop_of.ensures.stops)
