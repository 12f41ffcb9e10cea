use Rattle.std.proofs.Common.{◌≡◌, ◌+◌, drop, length, map}
use Rattle.group_tables.specs.Inside.Accumulator.{state_in}
use Rattle.group_tables.specs.Group.{joint_states}
use Rattle.group_tables.specs.Inside.Group.{IsSound}
use Rattle.group_tables.proofs.Keeping.{joint_states_from}
use Rattle.group_tables.proofs.accumulators.Accumulators.absorb_copies.Given as goal

-- once the rest is taken too, all is taken
abbrev pub invariant-loop-place : goal.invariant-loop-place
invariant-loop-place l = record {
  rest : joint_states_from l.place (map state_in l.self-inside.parts.items) (drop l.place l.other.parts) ≡ joint_states l.fn.self.parts l.other.parts;
  one_each : length l.other.parts ≡ length l.self-inside.parts.items;
  lines : l.self-inside.lines ≡ l.fn.self.lines + l.other.lines;
  sound : IsSound (l.fn.self.lines + l.other.lines) (map state_in l.self-inside.parts.items);
}
