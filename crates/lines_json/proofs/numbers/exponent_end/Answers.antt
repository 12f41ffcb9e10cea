use Rattle.std.proofs.Common.{◌+◌, ◌==◌, ◌||◌, Some, inl, inr, refl, sym, ◌∙◌}
use Rattle.std.proofs.lemmas.Option.{IfSome_then}
use Rattle.json.specs.Word.{after_digits, after_sign}
use Rattle.lines_json.proofs.Passed.{part-then, part-with_byte}
use Rattle.lines_json.proofs.numbers.exponent_end.Goals as goal

pub returns-in-101 : goal.returns-in-101
returns-in-101 c =
    let text = c.args.text.now in
    let is = sym c.byte_at.ensures in
    let read = part-with_byte (λ rest. after_digits (after_sign rest)) (λ rest. Some rest) (λ x. (x == 101) || (x == 69)) text c.args.at in
    IfSome_then c.digits_end.result c.digits_end.ensures (λ stop digits.
    let behind = part-then text (c.args.at + 1) c.sign_end.result stop c.sign_end.ensures digits in
    elim c.in-101.is [ inl upper ↦ read stop 69 (is ∙ upper) refl refl behind | inr lower ↦ read stop 101 (is ∙ lower) refl refl behind ])
