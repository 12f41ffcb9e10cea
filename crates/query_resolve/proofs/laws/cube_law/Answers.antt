use Rattle.query_resolve.proofs.RollupCube.{cube_is}
use Rattle.query_resolve.proofs.laws.cube_law.Goals as goal

pub returns : goal.returns
returns c = λ units. cube_is units
