use Rattle.std.proofs.Common.{◌≡◌, ◌∙◌, ◌<◌, ◌^◌, pos, arith, ap, sym, subst}
use Rattle.std.proofs.lemmas.Int.{fits_signed_from_abs, ints}
use Rattle.std.specs.Int.{w128}
use Rattle.semantics.specs.Values.{whole}
use Rattle.sort_keys.proofs.Decoding.{wide-read}
use Rattle.sort_keys.proofs.decode.split_wide.Goals as goal

pub returns-in-Ok-clause-value : goal.returns-in-Ok-clause-value
returns-in-Ok-clause-value c = λ n s h is.
    let r = wide-read n s c.args.code.now c.in-Some.bytes.now c.in-Some.rest.now c.from_be_bytes.result h is c.in-Some.ensures.cases.0 c.in-Some.ensures.cases.1 c.from_be_bytes.ensures in
    let e : c.in-Ok.distance ≡ pos n = c.in-Ok.ensures.1 ∙ ap pos r.0 in
    (ap whole (omega (arith, ints)), r.1)

pub returns-in-Err-clause-value : goal.returns-in-Err-clause-value
returns-in-Err-clause-value c = λ n s h is.
    let r = wide-read n s c.args.code.now c.in-Some.bytes.now c.in-Some.rest.now c.from_be_bytes.result h is c.in-Some.ensures.cases.0 c.in-Some.ensures.cases.1 c.from_be_bytes.ensures in
    absurd (c.in-Err.ensures (fits_signed_from_abs w128 (pos c.from_be_bytes.result) (subst (λ m. m < 2 ^ 127) (sym r.0) h)))
