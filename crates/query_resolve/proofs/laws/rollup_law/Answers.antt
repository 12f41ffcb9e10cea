use Rattle.query_resolve.proofs.RollupCube.{rollup_is}
use Rattle.query_resolve.proofs.laws.rollup_law.Goals as goal

pub returns : goal.returns
returns c = λ units. rollup_is units
