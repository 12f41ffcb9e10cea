use Rattle.lines_json.proofs.Passed.{part-digits}
use Rattle.lines_json.proofs.numbers.digits_end.Goals as goal

pub returns-then-end-from : goal.returns-then-end-from
returns-then-end-from c =
    let end = c.last_digit_end-end in
    part-digits c.args.text.now c.args.from end.result end.ensures.value c.if-end-from.true end.ensures.bound
