use Rattle.std.proofs.Common.{◌∙◌, ◌-◌, arith}
use Rattle.sort_keys.proofs.Loops.{change-all, change-next}
use Rattle.sort_keys.proofs.decode.lower.Goals as goal

pub loop-byte-preserved : goal.loop-byte-preserved
loop-byte-preserved c =
    change-next (λ b. b - 1) c.loop-byte.byte-index _ c.args.bytes.now c.loop-byte.bytes c.loop-byte.invariant (omega arith) c.saturating_sub.ensures

pub returns : goal.returns
returns c = c.loop-byte.invariant ∙ change-all (λ b. b - 1) c.loop-byte.byte-index c.args.bytes.now (omega arith)
