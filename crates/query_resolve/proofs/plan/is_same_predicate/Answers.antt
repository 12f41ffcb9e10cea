use Rattle.std.proofs.Common.{◌∙◌}
use Rattle.query_resolve.proofs.SameTrees.{equals_is_same}
use Rattle.query_resolve.proofs.plan.is_same_predicate.Goals as goal

pub returns : goal.returns
returns c = record { same = c.eq.ensures ∙ equals_is_same _ _ }
