use Rattle.std.proofs.Common.{◌≡◌, take}
use Rattle.semantics.specs.Lists.{distinct}
use Rattle.semantics.specs.Inside.Same.{same_predicate}
use Rattle.query_resolve.specs.Planning.{filter_forms}
use Rattle.query_resolve.proofs.plan.distinct_filters.Given as goal

abbrev pub invariant-loop-filter : goal.invariant-loop-filter
invariant-loop-filter l = filter_forms l.found.items ≡ distinct same_predicate (take l.filter-index (filter_forms l.filters))
