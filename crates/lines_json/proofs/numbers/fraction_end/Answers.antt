use Rattle.std.proofs.Common.{◌==◌, Some, refl, sym, ◌∙◌}
use Rattle.std.proofs.lemmas.Option.{IfSome_then}
use Rattle.json.specs.Word.{after_digits}
use Rattle.lines_json.proofs.Passed.{part-with_byte}
use Rattle.lines_json.proofs.numbers.fraction_end.Goals as goal

pub returns-then-byte_at-eq46 : goal.returns-then-byte_at-eq46
returns-then-byte_at-eq46 c =
    IfSome_then c.digits_end.result c.digits_end.ensures
    (λ stop part. part-with_byte after_digits (λ rest. Some rest) (λ x. x == 46) c.args.text.now c.args.at stop 46 (sym c.byte_at.ensures ∙ c.if-byte_at-eq46.true) refl refl part)
