use Rattle.std.proofs.Common.{◌≡◌, ◌++◌, take}
use Rattle.semantics.specs.Parts.{text_of, groups_values}
use Rattle.values.specs.GroupStates.{entries_of}
use Rattle.part_lines.proofs.writer.push_groups.Given as goal

abbrev pub invariant-loop-group : goal.invariant-loop-group
invariant-loop-group l = l.text.items ≡ l.fn.text.items ++ text_of (groups_values (entries_of (take l.group-index l.groups)))
