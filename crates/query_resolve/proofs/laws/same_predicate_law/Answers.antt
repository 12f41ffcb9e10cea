use Rattle.query_resolve.proofs.SameTrees.{same_predicate-Decides}
use Rattle.query_resolve.proofs.laws.same_predicate_law.Goals as goal

pub returns : goal.returns
returns c = λ p q. same_predicate-Decides p q
