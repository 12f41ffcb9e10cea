use Rattle.query_resolve.proofs.DistinctLaw.{distinct_is}
use Rattle.query_resolve.proofs.laws.distinct_law.Goals as goal

pub returns : goal.returns
returns c = λ fields t written. distinct_is fields t written
