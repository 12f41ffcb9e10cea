use Rattle.std.proofs.Common.{rules}
use Rattle.lines.proofs.Leaving.{left-ended}
use Rattle.lines.proofs.input.Input.read_block.Goals as goal

-- at the end all that is held is the last block
pub returns-then-ended-clause-block : goal.returns-then-ended-clause-block
returns-then-ended-clause-block g c =
    let old = c.args.self.now in
    let next = c.fill_for.new.self in
    let rest = g.R.Read.remaining in
    let released = c.release.ensures.lines in
    let filled = c.in_ok-ended.ensures in
    let round = left-ended old.held c.release.new.self next.held (rest old.source.reader) (rest next.source.reader)
    released.cut released.behind filled.goes_on.left (filled.near.end c.if-ended.true) (filled.near.few c.if-ended.true) in
    search rules
