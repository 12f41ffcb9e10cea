use Rattle.std.proofs.Common.{◌<◌, arith}
use Rattle.query_lexer.proofs.Cut.{cut_digits}
use Rattle.query_lexer.proofs.Digits.{front_digits}
use Rattle.query_lexer.proofs.numbers.digits.Goals as goal

pub split_at-requires : goal.split_at-requires
split_at-requires c =
    let h : 0 < c.digit_len-len.result = omega (arith, c.if-len-eq0.false) in
    let k = rw (c.digit_len-len.ensures, c.as_bytes.ensures.value) at h in
    rw (c.digit_len-len.ensures, c.as_bytes.ensures.value) (cut_digits c.args.text.now c.utf8.text k)

pub returns-clause-digits : goal.returns-clause-digits
returns-clause-digits c =
    let h : 0 < c.digit_len-len.result = omega (arith, c.if-len-eq0.false) in
    (omega (arith, h, c.split_at.ensures.front_len), rw (c.split_at.ensures.front, c.digit_len-len.ensures, c.as_bytes.ensures.value) (front_digits c.args.text.now))
