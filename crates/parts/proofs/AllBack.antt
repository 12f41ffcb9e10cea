-- The parts of inputs, one behind the other, if they are read at all, are read as the contents of
-- these inputs.
use Rattle.std.proofs.Common.{◌≡◌, ◌≢◌, ◌<◌, ◌≤◌, ◌+◌, ℕ, true, false, cond, List, [], ◌∷◌, ◌++◌, length, map, take, inl, inr, None, Result, Ok, Err, refl, sym, ap, subst, ◌∙◌, append_assoc, arith, zero, suc}
use Rattle.std.proofs.lemmas.Bool.{cases_lt}
use Rattle.std.proofs.lemmas.Bool.Decides.{nat_tests}
use Rattle.std.proofs.lemmas.List.{length-take, map-append, take_all}
use Rattle.std.proofs.lemmas.List.Concat.{flat_map-cons}
use Rattle.std.specs.Prelude.{IfOk, IfSome, flat_map, nat_lt}
use Rattle.lines.proofs.Clips.{lines-clip}
use Rattle.lines.proofs.Fronts.{lines-whole_lines}
use Rattle.lines.specs.Clip.{clip_lines, clipped_len}
use Rattle.lines.specs.Pieces.{EndsInFeed}
use Rattle.part_lines.specs.Known.{AreReadAs}
use Rattle.part_lines.specs.Reading.{Stream, reading_of}
use Rattle.part_lines.proofs.Rows.{lines-text_of}
use Rattle.part_lines.proofs.Same.{line_value-same}
use Rattle.part_lines.specs.LineValues.{line_value}
use Rattle.semantics.specs.Parts.{text_of, value_text, ContentsForm, contents_over, checksum, part_text, part_values}
use Rattle.semantics.specs.Columns.{Field}
use Rattle.semantics.specs.Lines.{line_feed, lines}
use Rattle.semantics.specs.Records.{max_line_len, valid_records}
use Rattle.semantics.specs.Conditions.{kept_records}
use Rattle.semantics.specs.Syntax.{Query}
use Rattle.semantics.specs.Values.{Datum}
use Rattle.values.specs.Schema.{IsSchema}
use Rattle.values.specs.Results.{◌>>=◌}
use Rattle.part_lines.specs.Faults.{Fault}
use Rattle.parts.specs.Faults.{PartedFault, in_part}
use Rattle.hex.specs.Hex.{encode_lower}
use Rattle.sha2.specs.Sha256.{sha256}
use Rattle.parts.specs.ReadingParts.{behind_part, part_at, parts_at, parts_from, with_fault}
use Rattle.parts.proofs.Onward.{at_end, no-lines, one, part-below}
use Rattle.parts.proofs.Back.{IsRead, part-again}
use Rattle.parts.proofs.FaultNames.{names-alone}
use Rattle.parts.proofs.Joined.{text-push}
use Rattle.parts.proofs.Written.{entries-shaped}

-- ---- lines that are cut where they are too long

short : (line : List ℕ) (d : Datum) → length line ≤ max_line_len → IfSome (line_value line) (λ e. e ≡ d) → IfSome (reading_of (take clipped_len line)) (λ e. e ≡ d)
short line d l h =
    let whole : take clipped_len line ≡ line = take_all clipped_len line (omega (arith, l)) in
    let test : nat_lt max_line_len (length line) ≡ false = grind (arith, nat_tests, l) in
    subst (λ (xs : List ℕ). IfSome (reading_of xs) (λ e. e ≡ d)) (sym whole) (subst (λ b. IfSome (cond b None (line_value line)) (λ e. e ≡ d)) (sym test) h)

long : (line : List ℕ) (d : Datum) → max_line_len < length line → IfSome (reading_of (take clipped_len line)) (λ e. e ≡ d)
long line d l =
    let size = length-take clipped_len line in
    let test : nat_lt max_line_len (length (take clipped_len line)) ≡ true = rw size grind (arith, nat_tests, l) in
    subst (λ b. IfSome (cond b None (line_value (take clipped_len line))) (λ e. e ≡ d)) (sym test) tt

clipped-reads : (ds : List Datum) → AreReadAs (map (take clipped_len) (map value_text ds)) ds
clipped-reads [] = tt
clipped-reads (d ∷ ds) =
    (elim (cases_lt max_line_len (length (value_text d))) [ inl l ↦ long (value_text d) d l | inr l ↦ short (value_text d) d l (line_value-same d) ], clipped-reads ds)

-- ---- the lines of parts

module _ (fields : List Field) (q : Query) where
  -- the values of the part of an input, with the last one
  abbrev all-values : List ℕ → List Datum
  all-values input = part_values fields q input ++ checksum (text_of (part_values fields q input)) ∷ []

  abbrev text : List ℕ → List ℕ
  text input = part_text fields q input

  part-lines : (input : List ℕ) → lines (text input) ≡ map value_text (all-values input)
  part-lines input = ap lines (sym (text-push (part_values fields q input) (checksum (text_of (part_values fields q input))))) ∙ lines-text_of (all-values input)

  part-feed : (input : List ℕ) → EndsInFeed (text input)
  part-feed input =
      let values : List ℕ = text_of (part_values fields q input) in
      record { front = values ++ value_text (checksum values); is = sym (append_assoc values (value_text (checksum values)) (line_feed ∷ [])) }

  -- the lines of the next part, cut, and those of the others
  abbrev cut : List ℕ → List (List ℕ)
  cut bytes = map (take clipped_len) (lines bytes)

  pub first-part : (input : List ℕ) (inputs : List (List ℕ)) → cut (flat_map text (input ∷ inputs)) ≡ map (take clipped_len) (map value_text (all-values input)) ++ cut (flat_map text inputs)
  first-part input inputs =
      ap cut (flat_map-cons text input inputs)
      ∙ ap (map (take clipped_len)) (lines-whole_lines (text input) (flat_map text inputs) (inr (part-feed input)))
      ∙ map-append (take clipped_len) (lines (text input)) (lines (flat_map text inputs))
      ∙ ap (λ ls. map (take clipped_len) ls ++ cut (flat_map text inputs)) (part-lines input)

  pub some-lines : (input : List ℕ) (inputs : List (List ℕ)) → cut (flat_map text (input ∷ inputs)) ≢ []
  some-lines input inputs e = let wrong : map (take clipped_len) (map value_text (all-values input)) ++ cut (flat_map text inputs) ≡ [] = sym (first-part input inputs) ∙ e in absurd cc

  module _ (schema : IsSchema fields) where
    abbrev over : List ℕ → ContentsForm
    over input = contents_over fields q input

    one-back : (before : ℕ) (s : Stream) (input : List ℕ) (inputs : List (List ℕ)) → s.left ≡ cut (flat_map text (input ∷ inputs)) → IfOk (part_at fields q before s) (IsRead (over input) (cut (flat_map text inputs)))
    one-back before s input inputs stands =
        part-again fields q before (over input) (encode_lower (sha256 (text_of (part_values fields q input)))) (names-alone fields schema) (entries-shaped fields q (kept_records fields q (valid_records fields input))) s
        (map (take clipped_len) (map value_text (all-values input))) (cut (flat_map text inputs)) (clipped-reads (all-values input)) (stands ∙ first-part input inputs)

    first-and-others : (c : ContentsForm) (others : Result (List ContentsForm) PartedFault) (input : List ℕ) (inputs : List (List ℕ)) → c ≡ over input → IfOk others (λ cs. cs ≡ map over inputs)
        → IfOk (behind_part c others) (λ cs. cs ≡ map over (input ∷ inputs))
    first-and-others c (Ok cs) input inputs is more = λ i. is i ∷ more i
    first-and-others c (Err fault) input inputs is more = tt

    -- so many parts at most, which are all of them
    abbrev AreBack : (inputs : List (List ℕ)) (most : ℕ) → Type 0
    AreBack inputs most = (part before : ℕ) (s : Stream) → length s.left ≤ most → s.left ≡ cut (flat_map text inputs) → IfOk (parts_from fields q most part before s) (λ cs. cs ≡ map over inputs)

    others-back : (input : List ℕ) (inputs : List (List ℕ)) (most part before count : ℕ) → AreBack inputs most → count ≤ suc most → (read : Result (ContentsForm × Stream) Fault) → IfOk read (λ r. length r.1.left + 1 ≤ count)
        → IfOk read (IsRead (over input) (cut (flat_map text inputs)))
        → IfOk (with_fault (in_part part) read >>= λ x. behind_part x.0 (parts_from fields q most (part + 1) (before + x.0.lines) x.1)) (λ cs. cs ≡ map over (input ∷ inputs))
    others-back input inputs most part before count more l (Ok x) fewer is =
        first-and-others x.0 (parts_from fields q most (part + 1) (before + x.0.lines) x.1) input inputs is.0 (more (part + 1) (before + x.0.lines) x.1 (omega (arith, fewer, l)) is.1)
    others-back input inputs most part before count more l (Err fault) fewer is = tt

    parts-back : (inputs : List (List ℕ)) (most : ℕ) → AreBack inputs most
    parts-back [] most part before s l stands = rw (at_end fields q part before s stands most l) refl
    parts-back (input ∷ inputs) zero part before s l stands = absurd (some-lines input inputs (sym stands ∙ no-lines s.left l))
    parts-back (input ∷ inputs) (suc most) part before s l stands =
        rw (one fields q most part before s.left s.place (λ none. some-lines input inputs (sym stands ∙ none)))
        (others-back input inputs most part before (length s.left) (parts-back inputs most) l (part_at fields q before s) (part-below fields q before s) (one-back before s input inputs stands))

    all-lines : (inputs : List (List ℕ)) (ls : List (List ℕ)) → ls ≡ cut (flat_map text inputs) → IfOk (parts_at fields q ls) (λ cs. cs ≡ map over inputs)
    all-lines inputs [] is = tt
    all-lines inputs (line ∷ more) is = parts-back inputs (length (line ∷ more)) 1 0 (record { left = line ∷ more; place = 0 }) (omega arith) is

    -- where parts are read at all, they are read as the contents of their inputs
    pub all-back : (inputs : List (List ℕ)) → IfOk (parts_at fields q (lines (clip_lines (flat_map (part_text fields q) inputs)))) (λ cs. cs ≡ map (contents_over fields q) inputs)
    all-back inputs = all-lines inputs (lines (clip_lines (flat_map text inputs))) (lines-clip (flat_map text inputs))
