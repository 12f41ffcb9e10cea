use Rattle.std.proofs.Common.{◌≡◌, ◌∙◌, ◌<◌, get_or, suc, ap, arith, add-one}
use Rattle.sort_keys.proofs.Loops.{at-place, change-all, change-next, next-is}
use Rattle.sort_keys.proofs.code.raise.Goals as goal

pub overflow_add-byte : goal.overflow_add-byte
overflow_add-byte c =
    let now = c.loop-byte.bytes in
    let i = c.loop-byte.byte-index in
    let before = c.args.bytes.now in
    let same : get_or now i 0 ≡ get_or before i 0 = ap (λ s. get_or s i 0) c.loop-byte.invariant ∙ next-is suc i before in
    let below = at-place (λ b. b < 255) before i c.requires (omega arith) in
    omega (arith, same, below)

pub loop-byte-preserved : goal.loop-byte-preserved
loop-byte-preserved c =
    change-next suc c.loop-byte.byte-index _ c.args.bytes.now c.loop-byte.bytes c.loop-byte.invariant (omega arith) (add-one (get_or c.loop-byte.bytes c.loop-byte.byte-index 0))

pub returns : goal.returns
returns c = c.loop-byte.invariant ∙ change-all suc c.loop-byte.byte-index c.args.bytes.now (omega arith)
