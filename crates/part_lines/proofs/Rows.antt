-- The lines of values that are written one behind the other.
use Rattle.std.proofs.Common.{◌≡◌, ◌<◌, ℕ, ◌==◌, cond, List, [], ◌∷◌, ◌++◌, length, map, refl, ap, ◌∙◌, arith, append_assoc}
use Rattle.std.proofs.lemmas.Bool.{ne_eqb}
use Rattle.std.proofs.lemmas.List.Concat.{flat_map-cons}
use Rattle.std.proofs.lemmas.List.Splits.{length-slice_split}
use Rattle.std.specs.List.{onto_first, slice_split}
use Rattle.std.specs.Prelude.{true, false}
use Rattle.semantics.specs.Lines.{line_feed, lines, without_empty_last}
use Rattle.semantics.specs.Values.{Datum, boolean, whole, text, null}
use Rattle.semantics.specs.Parts.{line_of, text_of, value_text}
use Rattle.part_lines.proofs.Decimals.{signed-no_control}
use Rattle.part_lines.proofs.Numerals.{HasNoControl}
use Rattle.part_lines.proofs.Escapes.{quoted-no_control}

pub text-no_control : (d : Datum) → HasNoControl (value_text d)
text-no_control (boolean true) = (omega arith, (omega arith, (omega arith, (omega arith, tt))))
text-no_control (boolean false) = (omega arith, (omega arith, (omega arith, (omega arith, (omega arith, tt)))))
text-no_control (whole n) = signed-no_control n
text-no_control (text s) = quoted-no_control s
text-no_control null = (omega arith, (omega arith, (omega arith, (omega arith, tt))))

-- ---- one line in front of others

abbrev parts : List ℕ → List (List ℕ)
parts s = slice_split (λ b. b == line_feed) s

parts-line : (xs rest : List ℕ) → HasNoControl xs → parts (xs ++ line_feed ∷ rest) ≡ xs ∷ parts rest
parts-line [] rest h = refl
parts-line (x ∷ xs) rest h =
    ap (λ b. cond b ([] ∷ parts (xs ++ line_feed ∷ rest)) (onto_first x (parts (xs ++ line_feed ∷ rest)))) (ne_eqb x line_feed (λ e. omega (arith, h.0, e)))
    ∙ ap (onto_first x) (parts-line xs rest h.1)

without_empty_last-more : (part : List ℕ) (more : List (List ℕ)) → 0 < length more → without_empty_last (part ∷ more) ≡ part ∷ without_empty_last more
without_empty_last-more part [] h = absurd (omega (arith, h))
without_empty_last-more part (next ∷ more) h = refl

lines-line : (xs rest : List ℕ) → HasNoControl xs → lines (xs ++ line_feed ∷ rest) ≡ xs ∷ lines rest
lines-line xs rest h =
    ap without_empty_last (parts-line xs rest h)
    ∙ without_empty_last-more xs (parts rest) (omega (arith, length-slice_split (λ b. b == line_feed) rest))

-- ---- all lines

pub lines-text_of : (values : List Datum) → lines (text_of values) ≡ map value_text values
lines-text_of [] = refl
lines-text_of (d ∷ values) =
    ap lines (flat_map-cons line_of d values ∙ append_assoc (value_text d) (line_feed ∷ []) (text_of values))
    ∙ lines-line (value_text d) (text_of values) (text-no_control d)
    ∙ ap (λ ls. value_text d ∷ ls) (lines-text_of values)
