use Rattle.std.proofs.Common.{◌==◌, refl, sym, ◌∙◌}
use Rattle.json.specs.Word.{after_digits}
use Rattle.lines_json.proofs.Passed.{part-one_byte}
use Rattle.lines_json.proofs.numbers.whole_end.Goals as goal

pub returns-then-byte_at-eq48 : goal.returns-then-byte_at-eq48
returns-then-byte_at-eq48 c = part-one_byte after_digits (λ x. x == 48) c.args.text.now c.args.at 48 (sym c.byte_at.ensures ∙ c.if-byte_at-eq48.true) refl refl
