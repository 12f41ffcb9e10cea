use Rattle.std.proofs.Common.{◌≡◌, ◌++◌, map}
use Rattle.values.specs.GroupStates.{states_of}
use Rattle.group_tables.specs.Inside.Accumulator.{state_in}
use Rattle.group_tables.specs.Inside.Entries.{kept_states}
use Rattle.group_tables.proofs.accumulators.Accumulators.of_states.Given as goal

-- the accumulators so far, and then those of the states that are left
abbrev pub invariant-loop-function : goal.invariant-loop-function
invariant-loop-function l = map state_in l.parts.items ++ kept_states l.function-iterator.a.rest.now (states_of l.function-iterator.b.rest.items) ≡ kept_states l.functions (states_of l.fn.states.items)
