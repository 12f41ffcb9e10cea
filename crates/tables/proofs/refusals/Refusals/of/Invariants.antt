use Rattle.std.proofs.Common.{◌≡◌, take}
use Rattle.tables.proofs.refusals.Refusals.of.Given as goal

-- they are the lines so far
abbrev pub invariant-loop-number : goal.invariant-loop-number
invariant-loop-number l = l.refusals ≡ take l.number-index l.list
