use Rattle.std.proofs.Common.{length}
use Rattle.query_resolve.proofs.union.+rollup.Given as goal

abbrev pub decreases-rollup : goal.decreases-rollup
decreases-rollup l = length l.units.now
