use Rattle.std.proofs.Common.{◌||◌, ◌<◌, ap, arith, get_or, refl, sym, ◌∙◌}
use Rattle.lines_json.specs.Inside.Contents.{is_word_end}
use Rattle.lines_json.proofs.Passed.{number-token}
use Rattle.lines_json.proofs.numbers.numeral_end.Goals as goal

pub returns-then-ends_word : goal.returns-then-ends_word
returns-then-ends_word c =
    let text = c.args.text.now in
    let begins = c.if-not-begins_number.ensures refl in
    let low : 44 < get_or text c.args.at 32 = omega (arith, begins.0, c.byte_at.ensures) in
    let high : get_or text c.args.at 32 < 58 = omega (arith, begins.1, c.byte_at.ensures) in
    let ends = ap is_word_end (sym c.byte_at-2.ensures) ∙ sym c.ends_word.ensures ∙ c.if-ends_word.true in
    number-token text c.args.at c.in_ok-stop.stop low high c.in_ok-stop.ensures ends
