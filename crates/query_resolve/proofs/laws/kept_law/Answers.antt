use Rattle.query_resolve.proofs.DistinctLaw.{distinct_keeps}
use Rattle.query_resolve.proofs.laws.kept_law.Goals as goal

pub returns : goal.returns
returns c start = λ same itself joined xs. distinct_keeps same itself joined xs
