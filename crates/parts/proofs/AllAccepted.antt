-- The parts of inputs, one behind the other, are read as the contents of these inputs.
use Rattle.std.proofs.Common.{◌≡◌, ◌≢◌, ◌<◌, ◌≤◌, ◌+◌, ◌^◌, ℕ, zero, suc, List, [], ◌∷◌, ◌++◌, length, map, take, Ok, refl, sym, ap, subst, ◌∙◌, length-append, arith}
use Rattle.std.proofs.lemmas.List.{take_all}
use Rattle.std.specs.List.{AllByRecursion}
use Rattle.std.specs.Prelude.{flat_map}
use Rattle.semantics.specs.Columns.{Field}
use Rattle.semantics.specs.Lines.{lines}
use Rattle.semantics.specs.Parts.{ContentsForm, checksum, contents_over, part_text, part_values, text_of, value_text}
use Rattle.semantics.specs.Syntax.{Query}
use Rattle.semantics.specs.Values.{Datum}
use Rattle.values.specs.Results.{◌>>=◌}
use Rattle.lines.proofs.Clips.{lines-clip}
use Rattle.lines.specs.Clip.{clip_lines, clipped_len}
use Rattle.part_lines.proofs.Spellings.{line_value-text}
use Rattle.part_lines.proofs.Read.{texts-have}
use Rattle.part_lines.specs.Known.{HaveValues, IsWritable}
use Rattle.part_lines.specs.Reading.{Stream, behind}
use Rattle.parts.specs.Faults.{in_part}
use Rattle.parts.specs.ReadingParts.{behind_part, part_at, parts_at, parts_from, with_fault}
use Rattle.parts.proofs.Accepted.{AreContentsFor, part-read}
use Rattle.parts.proofs.AllBack.{first-part, some-lines}

-- ---- lines that are not cut

-- no line of a value that can be written is too long
uncut : (ds : List Datum) → AllByRecursion IsWritable ds → map (take clipped_len) (map value_text ds) ≡ map value_text ds
uncut [] h = refl
uncut (d ∷ ds) h =
    let whole : take clipped_len (value_text d) ≡ value_text d = take_all clipped_len (value_text d) (omega (arith, h.0.1)) in
    let more : map (take clipped_len) (map value_text ds) ≡ map value_text ds = uncut ds h.1 in
    λ i. whole i ∷ more i

-- ---- parts one behind the other

-- How many lines some inputs have together.
abbrev pub lines_together : List (List ℕ) → ℕ
lines_together [] = 0
lines_together (input ∷ inputs) = length (lines input) + lines_together inputs

module _ (fields : List Field) (q : Query) where
  -- behind the last part nothing is read
  at_end : (most part before : ℕ) (s : Stream) → s.left ≡ [] → parts_from fields q most part before s ≡ Ok []
  unfolding parts_from
  at_end zero part before s none = refl
  at_end (suc most) part before s none = rw none refl

  -- where lines are left, these are a part and those behind it
  at_part : (most part before : ℕ) (left : List (List ℕ)) (place : ℕ) → left ≢ []
      → let s : Stream = record { left = left; place = place } in
      parts_from fields q (suc most) part before s ≡ (with_fault (in_part part) (part_at fields q before s) >>= λ x. behind_part x.0 (parts_from fields q most (part + 1) (before + x.0.lines) x.1))
  unfolding parts_from
  at_part most part before [] place some = absurd (some refl)
  at_part most part before (line ∷ more) place some = refl

  -- the values of the part of an input, with the last one
  abbrev all-values : List ℕ → List Datum
  all-values input = part_values fields q input ++ checksum (text_of (part_values fields q input)) ∷ []

  abbrev text : List ℕ → List ℕ
  text input = part_text fields q input

  abbrev over : List ℕ → ContentsForm
  over input = contents_over fields q input

  -- the lines of parts, each cut, and those of one part in front of others
  abbrev cut : List ℕ → List (List ℕ)
  cut bytes = map (take clipped_len) (lines bytes)

  abbrev part-cut : List ℕ → List (List ℕ)
  part-cut input = map (take clipped_len) (map value_text (all-values input))

  -- there are no more parts than lines
  more-lines : (inputs : List (List ℕ)) → length inputs ≤ length (cut (flat_map text inputs))
  more-lines [] = omega arith
  more-lines (input ∷ inputs) =
      let others : List (List ℕ) = cut (flat_map text inputs) in
      let size : length (cut (flat_map text (input ∷ inputs))) ≡ length (part-cut input ++ others) = ap length (first-part fields q input inputs) in
      let one : 1 ≤ length (part-cut input) = omega arith in
      omega (arith, more-lines inputs, size, length-append (part-cut input) others, one)

  module _ (fit : (before : ℕ) (input : List ℕ) → before + length (lines input) < 2 ^ 63 → AreContentsFor fields q before (contents_over fields q input))
      (writable : (input : List ℕ) → length (lines input) < 2 ^ 63 → AllByRecursion IsWritable (part_values fields q input ++ checksum (text_of (part_values fields q input)) ∷ [])) where
    -- the next part is read, and the lines of the others are left
    one-read : (before : ℕ) (s : Stream) (input : List ℕ) (inputs : List (List ℕ)) → before + length (lines input) < 2 ^ 63 → s.left ≡ cut (flat_map text (input ∷ inputs))
        → part_at fields q before s ≡ Ok (over input, behind (all-values input) (cut (flat_map text inputs)) s)
    one-read before s input inputs few stands =
        let can : AllByRecursion IsWritable (all-values input) = writable input (omega (arith, few)) in
        let has : HaveValues (part-cut input) (all-values input) =
        subst (λ ls. HaveValues ls (all-values input)) (sym (uncut (all-values input) can)) (texts-have line_value-text (all-values input) can) in
        part-read fields q before (over input) (fit before input few) s (part-cut input) (cut (flat_map text inputs)) has (stands ∙ first-part fields q input inputs)

    parts-read : (inputs : List (List ℕ)) (most part before : ℕ) (s : Stream) → length inputs ≤ most → before + lines_together inputs < 2 ^ 63 → s.left ≡ cut (flat_map text inputs)
        → parts_from fields q most part before s ≡ Ok (map over inputs)
    parts-read [] most part before s l few stands = at_end most part before s stands
    parts-read (input ∷ inputs) zero part before s l few stands = absurd (omega (arith, l))
    parts-read (input ∷ inputs) (suc most) part before s l few stands =
        let first : before + length (lines input) < 2 ^ 63 = omega (arith, few) in
        at_part most part before s.left s.place (λ none. some-lines fields q input inputs (sym stands ∙ none))
        ∙ ap (λ r. with_fault (in_part part) r >>= λ x. behind_part x.0 (parts_from fields q most (part + 1) (before + x.0.lines) x.1)) (one-read before s input inputs first stands)
        ∙ ap (behind_part (over input))
        (parts-read inputs most (part + 1) (before + length (lines input)) (behind (all-values input) (cut (flat_map text inputs)) s) (omega (arith, l)) (omega (arith, few)) refl)

    all-lines : (inputs : List (List ℕ)) (ls : List (List ℕ)) → inputs ≢ [] → lines_together inputs < 2 ^ 63 → ls ≡ cut (flat_map text inputs) → parts_at fields q ls ≡ Ok (map over inputs)
    all-lines [] ls some few is = absurd (some refl)
    all-lines (input ∷ inputs) [] some few is = absurd (some-lines fields q input inputs (sym is))
    all-lines (input ∷ inputs) (line ∷ more) some few is =
        let size : length (line ∷ more) ≡ length (cut (flat_map text (input ∷ inputs))) = ap length is in
        parts-read (input ∷ inputs) (length (line ∷ more)) 1 0 (record { left = line ∷ more; place = 0 }) (omega (arith, more-lines (input ∷ inputs), size)) (omega (arith, few)) is

    pub all-read : (inputs : List (List ℕ)) → inputs ≢ [] → lines_together inputs < 2 ^ 63
        → parts_at fields q (lines (clip_lines (flat_map (part_text fields q) inputs))) ≡ Ok (map (contents_over fields q) inputs)
    all-read inputs some few = all-lines inputs (lines (clip_lines (flat_map text inputs))) some few (lines-clip (flat_map text inputs))
