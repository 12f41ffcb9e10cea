use Rattle.std.proofs.Common.{◌≡◌}
use Rattle.std.specs.FinSet as set
use Rattle.group_tables.specs.Inside.Values.{values_in}
use Rattle.group_tables.specs.Inside.ValueSets.{shown}
use Rattle.group_tables.proofs.distinct_values.DistinctValues.of_values.Given as goal

-- the values so far with those that are left are all values
abbrev pub invariant-loop-value : goal.invariant-loop-value
invariant-loop-value l = set.union (shown l.set) (values_in l.value-iterator.rest.items) ≡ values_in l.fn.values.items
