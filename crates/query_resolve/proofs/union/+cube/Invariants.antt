use Rattle.std.proofs.Common.{length}
use Rattle.query_resolve.proofs.union.+cube.Given as goal

abbrev pub decreases-cube : goal.decreases-cube
decreases-cube l = length l.units.now
