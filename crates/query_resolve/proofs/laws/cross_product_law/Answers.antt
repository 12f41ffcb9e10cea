use Rattle.query_resolve.proofs.CrossedLaw.{crossed_is}
use Rattle.query_resolve.proofs.laws.cross_product_law.Goals as goal

pub returns : goal.returns
returns c = λ firsts seconds. crossed_is firsts seconds
