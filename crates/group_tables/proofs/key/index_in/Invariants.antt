use Rattle.std.proofs.Common.{◌≡◌, ◌+◌, drop}
use Rattle.group_tables.specs.Rolled.{index_in}
use Rattle.group_tables.proofs.key.index_in.Given as goal

-- it stands in the rest, so much further on
abbrev pub invariant-loop-index : goal.invariant-loop-index
invariant-loop-index l = index_in l.set l.place ≡ l.index + index_in (drop l.index l.set) l.place
