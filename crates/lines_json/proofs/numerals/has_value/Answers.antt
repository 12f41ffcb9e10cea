use Rattle.lines_json.proofs.Signs.{number-behind_minus, number-no_minus}
use Rattle.lines_json.proofs.numerals.has_value.Goals as goal

pub returns-then-has_minus : goal.returns-then-has_minus
returns-then-has_minus c given =
    let bytes = c.args.text.now in
    rw (number-behind_minus bytes c.scan.result c.if-has_minus.ensures.value c.scan.ensures.parts) (c.negative_has_value.ensures given)

pub returns-else-has_minus : goal.returns-else-has_minus
returns-else-has_minus c given =
    let bytes = c.args.text.now in
    rw (number-no_minus bytes c.scan-else-has_minus.result c.if-has_minus.ensures.value c.scan-else-has_minus.ensures.parts) (c.positive_has_value.ensures given)
