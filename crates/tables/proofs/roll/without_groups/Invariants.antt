use Rattle.std.proofs.Common.{◌≡◌, length}
use Rattle.tables.proofs.roll.without_groups.Given as goal

-- there are as many lists as steps so far
abbrev pub invariant-loop : goal.invariant-loop
invariant-loop l = length l.groups.items ≡ l.counter
