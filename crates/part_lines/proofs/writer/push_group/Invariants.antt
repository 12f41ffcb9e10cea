use Rattle.std.proofs.Common.{◌≡◌, ◌++◌, take}
use Rattle.std.specs.List.{flat_map}
use Rattle.semantics.specs.Parts.{text_of, state_values}
use Rattle.values.specs.GroupStates.{states_of}
use Rattle.part_lines.proofs.writer.push_group.Given as goal

abbrev pub invariant-loop-state : goal.invariant-loop-state
invariant-loop-state l = l.text.items ≡ l.initial.text.items ++ text_of (flat_map state_values (states_of (take l.state-index l.state-items)))
