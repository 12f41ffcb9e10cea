use Rattle.std.proofs.Common.{◌≡◌}
use Rattle.std.specs.FinSet as set
use Rattle.group_tables.specs.Inside.Values.{values_in}
use Rattle.group_tables.specs.Inside.ValueSets.{shown}
use Rattle.group_tables.proofs.value_set.ValueSet.insert_each.Given as goal

-- the values so far with those that are left are those of both
abbrev pub invariant-loop-value : goal.invariant-loop-value
invariant-loop-value l = set.union (shown l.self) (values_in l.value-iterator) ≡ set.union (shown l.fn.self) (values_in l.fn.values.keys)
