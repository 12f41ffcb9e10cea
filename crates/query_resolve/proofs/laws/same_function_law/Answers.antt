use Rattle.query_resolve.proofs.SameTrees.{same_planned-Decides}
use Rattle.query_resolve.proofs.laws.same_function_law.Goals as goal

pub returns : goal.returns
returns c = λ f g. same_planned-Decides f g
