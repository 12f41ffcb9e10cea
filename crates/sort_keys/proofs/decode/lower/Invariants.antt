use Rattle.std.proofs.Common.{◌≡◌, ◌-◌}
use Rattle.sort_keys.proofs.Loops.{changed}
use Rattle.sort_keys.proofs.decode.lower.Given as goal

-- those so far are less by one
abbrev pub invariant-loop-byte : goal.invariant-loop-byte
invariant-loop-byte l = l.bytes ≡ changed (λ b. b - 1) l.byte-index l.fn.bytes
