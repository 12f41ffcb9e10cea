use Rattle.std.proofs.Common.{◌==◌, refl, sym, ◌∙◌}
use Rattle.lines_json.proofs.Passed.{part-sign}
use Rattle.lines_json.proofs.numbers.minus_end.Goals as goal

pub returns-then-byte_at-eq45 : goal.returns-then-byte_at-eq45
returns-then-byte_at-eq45 c = part-sign (λ x. x == 45) c.args.text.now c.args.at 45 (sym c.byte_at.ensures ∙ c.if-byte_at-eq45.true) refl refl
