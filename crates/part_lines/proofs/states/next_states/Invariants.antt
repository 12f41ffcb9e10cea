use Rattle.std.proofs.Common.{◌≡◌, ◌≤◌, drop, take}
use Rattle.values.specs.GroupStates.{states_of}
use Rattle.part_lines.specs.Known.{AreStatesFor}
use Rattle.part_lines.specs.Reading.{each_at, state_at}
use Rattle.part_lines.proofs.Loop.{with_front}
use Rattle.part_lines.proofs.states.next_states.Given as goal

abbrev pub invariant-loop-kind : goal.invariant-loop-kind
invariant-loop-kind g l = record {
  read : g.S.ValueReader.known l.fn.source
      → g.S.ValueReader.known l.source × (with_front (states_of l.states.items) (each_at (state_at l.members) (drop l.kind-index l.kinds) (g.S.ValueReader.stream l.source)) ≡ each_at (state_at l.members) l.kinds (g.S.ValueReader.stream l.fn.source));
  states : AreStatesFor l.members (take l.kind-index l.kinds) (states_of l.states.items);
  onward : (g.S.ValueReader.stream l.fn.source).place ≤ (g.S.ValueReader.stream l.source).place;
}
