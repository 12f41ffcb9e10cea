use Rattle.std.proofs.Common.{◌≡◌, ◌++◌, drop}
use Rattle.std.specs.List.{filter_map}
use Rattle.query_resolve.specs.Planning.{filter_forms, planned_forms}
use Rattle.query_resolve.proofs.plan.all_filters.Given as goal

abbrev pub invariant-loop-function : goal.invariant-loop-function
invariant-loop-function l = filter_forms l.filters.items ++ filter_map (λ f. f.filter) (planned_forms (drop l.function-index l.functions)) ≡ filter_map (λ f. f.filter) (planned_forms l.functions)
