use Rattle.std.proofs.Common.{◌≤◌, ◌+◌, ◌-◌, ◌^◌}
use Rattle.parts.proofs.Joins.{IsJoining}
use Rattle.parts.proofs.join.join_rest.Given as goal

-- each part has a line
abbrev pub invariant-loop-whole : goal.invariant-loop-whole
invariant-loop-whole g l = IsJoining l.plan l.fn.reader l.fn.first l.reader l.part l.whole × (l.part ≤ l.reader.line + 2)

abbrev pub decreases-loop-whole : goal.decreases-loop-whole
decreases-loop-whole g l = 2 ^ 63 - l.reader.line
