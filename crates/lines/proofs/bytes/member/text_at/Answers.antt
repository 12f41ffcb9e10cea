use Rattle.std.proofs.Common.{◌≡◌, ◌+◌, ◌-◌, take, drop, get_or, ap, ◌∙◌, arith}
use Rattle.lines_json.specs.Standing.{IsPlainString}
use Rattle.lines.proofs.Objects.{quote-boundary, text-taken}
use Rattle.lines.proofs.bytes.member.text_at.Goals as goal

pub range-requires-clause-start_boundary : goal.range-requires-clause-start_boundary
range-requires-clause-start_boundary c some =
    quote-boundary c.args.text.now c.args.at c.utf8.text (omega (arith, c.byte_at.ensures, ap (λ t. get_or t c.args.at 32) c.as_bytes-line.ensures.value))

pub returns-in_ok-copy-in-Some : goal.returns-in_ok-copy-in-Some
returns-in_ok-copy-in-Some c =
    let bytes = c.args.text.now in
    let at = c.args.at in
    let quote = c.in-Some.quote in
    let s = take (quote - (at + 1)) (drop (at + 1) bytes) in
    let opens : get_or bytes at 32 ≡ 34 = omega (arith, c.byte_at.ensures, ap (λ t. get_or t at 32) c.as_bytes-line.ensures.value) in
    let stands : IsPlainString bytes (at + 1) quote = rw (← c.as_bytes-line.ensures.value) c.in-Some.ensures in
    text-taken bytes at quote s c.in_ok-copy-in-Some.copy opens stands (c.in_ok-copy-in-Some.ensures ∙ c.range.ensures.value)
