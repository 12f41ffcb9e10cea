use Rattle.std.proofs.Common.{◌≡◌, ◌++◌, map}
use Rattle.values.specs.GroupStates.{states_of}
use Rattle.group_tables.specs.Inside.Accumulator.{state_in}
use Rattle.group_tables.specs.Entries.{plain_state}
use Rattle.group_tables.proofs.accumulators.plain_states.Given as goal

-- the states so far, and then those of the accumulators that are left
abbrev pub invariant-loop-part : goal.invariant-loop-part
invariant-loop-part l = states_of l.states.items ++ map (λ part. plain_state (state_in part)) l.part-iterator.rest.items ≡ map (λ part. plain_state (state_in part)) l.fn.parts.items
