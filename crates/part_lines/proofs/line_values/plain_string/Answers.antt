use Rattle.std.proofs.Common.{◌≡◌, ◌∷◌, [], ◌++◌, List, ℕ, Some, refl, sym, ap, arith, ◌∙◌}
use Rattle.std.proofs.lemmas.Str.Pattern.{strip_prefix_char, strip_suffix_char}
use Rattle.std.specs.Prelude.{IsTrue}
use Rattle.json.specs.Print.{escape, quoted}
use Rattle.part_lines.proofs.line_values.plain_string.Goals as goal

pub returns-then-has_no_escape : goal.returns-then-has_no_escape
returns-then-has_no_escape c =
    let line : List ℕ = c.args.line.now in
    let behind : List ℕ = c.in_ok-strip_prefix.field-0.now in
    let string : List ℕ = c.in_ok-string.string.now in
    let front : line ≡ 34 ∷ behind = strip_prefix_char 34 line (Some c.in_ok-strip_prefix.field-0) c.in_ok-strip_prefix.ensures.cases (omega arith) in
    let back : behind ≡ string ++ 34 ∷ [] = strip_suffix_char 34 behind (Some c.in_ok-string.string) c.in_ok-string.ensures.cases (omega arith) in
    let plain : escape string ≡ string = c.if-has_no_escape.ensures refl in
    front ∙ ap (λ s. 34 ∷ s) (back ∙ ap (λ s. s ++ 34 ∷ []) (sym plain))
