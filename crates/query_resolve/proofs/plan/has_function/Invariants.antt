use Rattle.std.proofs.Common.{◌≡◌, drop}
use Rattle.std.specs.List.{list_any}
use Rattle.semantics.specs.Inside.Same.{same_planned}
use Rattle.query_resolve.specs.Planning.{planned_form, planned_forms}
use Rattle.query_resolve.proofs.plan.has_function.Given as goal

abbrev pub invariant-loop-other : goal.invariant-loop-other
invariant-loop-other l = list_any (λ f. same_planned f (planned_form l.function)) (planned_forms (drop l.other-index l.functions)) ≡ list_any (λ f. same_planned f (planned_form l.function)) (planned_forms l.functions)
