use Rattle.std.proofs.Common.{◌≡◌, ◌++◌, drop, map}
use Rattle.query_resolve.specs.Functions.{indexed_function}
use Rattle.query_resolve.specs.Planning.{filter_forms, planned_forms}
use Rattle.query_resolve.proofs.plan.index_functions.Given as goal

abbrev pub invariant-loop-function : goal.invariant-loop-function
invariant-loop-function l = l.all.items ++ map (indexed_function (filter_forms l.filters)) (planned_forms (drop l.function-index l.functions)) ≡ map (indexed_function (filter_forms l.filters)) (planned_forms l.functions)
