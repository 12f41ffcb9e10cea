use Rattle.std.proofs.Common.{◌≡◌, ◌+◌, length, map}
use Rattle.group_tables.specs.Inside.Accumulator.{state_in}
use Rattle.group_tables.specs.Group.{joint_states}
use Rattle.group_tables.specs.Inside.Group.{IsSound}
use Rattle.group_tables.proofs.Keeping.{joint_states_from}
use Rattle.group_tables.proofs.accumulators.Accumulators.absorb.Given as goal

-- once the rest is taken too, all is taken
abbrev pub invariant-loop-place : goal.invariant-loop-place
invariant-loop-place l = record {
  rest : joint_states_from l.place-iterator.count (map state_in l.self-inside.parts.items) (map state_in l.place-iterator.iter.rest.items) ≡ joint_states l.fn.self.parts l.fn.other.parts;
  one_each : l.place-iterator.count + length l.place-iterator.iter.rest.items ≡ length l.self-inside.parts.items;
  lines : l.self-inside.lines ≡ l.fn.self.lines + l.fn.other.lines;
  sound : IsSound (l.fn.self.lines + l.fn.other.lines) (map state_in l.self-inside.parts.items);
}
