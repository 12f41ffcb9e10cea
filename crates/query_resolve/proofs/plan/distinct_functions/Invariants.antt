use Rattle.std.proofs.Common.{◌≡◌, take}
use Rattle.semantics.specs.Lists.{distinct}
use Rattle.semantics.specs.Inside.Same.{same_planned}
use Rattle.query_resolve.specs.Planning.{planned_forms}
use Rattle.query_resolve.proofs.plan.distinct_functions.Given as goal

abbrev pub invariant-loop-function : goal.invariant-loop-function
invariant-loop-function l = planned_forms l.found.items ≡ distinct same_planned (take l.function-index (planned_forms l.functions))
