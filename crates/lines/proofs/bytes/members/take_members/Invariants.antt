use Rattle.std.proofs.Common.{◌-◌, ◌≤◌, length}
use Rattle.lines.proofs.Objects.{AreMembersUpTo}
use Rattle.lines.proofs.bytes.members.take_members.Given as goal

abbrev pub invariant-members : goal.invariant-members
invariant-members l = record {
  members : AreMembersUpTo l.text l.fn.from l.at l.columns l.values.items;
  next_within : l.next ≤ length l.columns;
}

abbrev pub decreases-members : goal.decreases-members
decreases-members l = length l.text - l.at
