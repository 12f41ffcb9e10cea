use Rattle.std.proofs.Common.{arith}
use Rattle.std.proofs.lemmas.Grind.{common_steps}
use Rattle.query_parser.specs.Inside.LeafSteps.{aggregate_at}
use Rattle.query_parser.proofs.functions.aggregate.Goals as goal

-- `grind` alone, without the search that is tried before it where a goal has no answer
pub returns-in_ok-name-in-Word-2-clause-exact : goal.returns-in_ok-name-in-Word-2-clause-exact
unfolding aggregate_at
returns-in_ok-name-in-Word-2-clause-exact c = grind (arith, common_steps)

pub returns-in_ok-name-in-Word-3-clause-exact : goal.returns-in_ok-name-in-Word-3-clause-exact
unfolding aggregate_at
returns-in_ok-name-in-Word-3-clause-exact c = grind (arith, common_steps)

pub returns-in_ok-name-in-Word-4-clause-exact : goal.returns-in_ok-name-in-Word-4-clause-exact
unfolding aggregate_at
returns-in_ok-name-in-Word-4-clause-exact c = grind (arith, common_steps)

pub returns-in_ok-name-in-Word-5-clause-exact : goal.returns-in_ok-name-in-Word-5-clause-exact
unfolding aggregate_at
returns-in_ok-name-in-Word-5-clause-exact c = grind (arith, common_steps)

pub returns-in_default-clause-exact : goal.returns-in_default-clause-exact
unfolding aggregate_at
returns-in_default-clause-exact c = grind (arith, common_steps)
