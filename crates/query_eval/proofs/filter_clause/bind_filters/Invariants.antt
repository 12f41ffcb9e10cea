use Rattle.std.proofs.Common.{take}
use Rattle.values.specs.Schema.{fields_of}
use Rattle.query_resolve.specs.Planning.{filter_forms}
use Rattle.query_eval.specs.Binding.{AreConditionsOf}
use Rattle.query_eval.proofs.filter_clause.bind_filters.Given as goal

abbrev pub invariant-loop-filter : goal.invariant-loop-filter
invariant-loop-filter l = AreConditionsOf (fields_of l.columns) (filter_forms (take l.filter-index l.filters)) l.conditions.items
