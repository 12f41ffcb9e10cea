use Rattle.std.proofs.Common.{◌==◌, ◌||◌, inl, inr, refl, sym, ◌∙◌}
use Rattle.lines_json.proofs.Passed.{part-sign}
use Rattle.lines_json.proofs.numbers.sign_end.Goals as goal

pub returns-in-45 : goal.returns-in-45
returns-in-45 c =
    let text = c.args.text.now in
    let is = sym c.byte_at.ensures in
    elim c.in-45.is [
      | inl plus ↦ part-sign (λ x. (x == 45) || (x == 43)) text c.args.at 43 (is ∙ plus) refl refl
      | inr minus ↦ part-sign (λ x. (x == 45) || (x == 43)) text c.args.at 45 (is ∙ minus) refl refl
    ]
