use Rattle.std.proofs.Common.{◌≡◌, suc}
use Rattle.sort_keys.proofs.Loops.{changed}
use Rattle.sort_keys.proofs.code.raise.Given as goal

-- those so far are greater by one
abbrev pub invariant-loop-byte : goal.invariant-loop-byte
invariant-loop-byte l = l.bytes ≡ changed suc l.byte-index l.fn.bytes
