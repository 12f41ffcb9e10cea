use Rattle.std.proofs.Common.{◌≡◌, ◌-◌}
use Rattle.sort_keys.proofs.Loops.{changed}
use Rattle.sort_keys.proofs.code.complement.Given as goal

-- those so far are as far from 255 as they were from 0
abbrev pub invariant-loop-byte : goal.invariant-loop-byte
invariant-loop-byte l = l.bytes ≡ changed (λ b. 255 - b) l.byte-index l.fn.bytes
