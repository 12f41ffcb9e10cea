use Rattle.lines_json.proofs.Signs.{number-behind_minus, number-no_minus}
use Rattle.lines_json.proofs.numerals.whole_number.Goals as goal

pub returns-then-has_minus : goal.returns-then-has_minus
returns-then-has_minus c =
    let bytes = c.args.text.now in
    rw (number-behind_minus bytes c.scan.result c.if-has_minus.ensures.value c.scan.ensures.parts) c.whole_negative.ensures

pub returns-else-has_minus : goal.returns-else-has_minus
returns-else-has_minus c =
    let bytes = c.args.text.now in
    rw (number-no_minus bytes c.scan-else-has_minus.result c.if-has_minus.ensures.value c.scan-else-has_minus.ensures.parts) c.whole_positive.ensures
