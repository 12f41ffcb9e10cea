-- An input with a line feed behind it has the same lines.
use Rattle.std.proofs.Common.{◌≡◌, ◌==◌, ◌<◌, ℕ, Bool, true, false, cond, List, [], ◌∷◌, ◌++◌, inl, inr, length, refl, sym, ap, subst, ◌∙◌, arith, append-nil, append_assoc}
use Rattle.std.proofs.lemmas.Bool.{eqb-true}
use Rattle.std.proofs.lemmas.Bool.Decides.{nat_tests}
use Rattle.std.proofs.lemmas.List.Concat.{flat_map-cons}
use Rattle.std.proofs.lemmas.List.Splits.{length-slice_split}
use Rattle.std.specs.List.{onto_first, slice_split}
use Rattle.lines.specs.Pieces.{AreWholeLines, EndsInFeed}
use Rattle.semantics.specs.Columns.{Field}
use Rattle.semantics.specs.Lines.{line_feed, lines, without_empty_last}
use Rattle.semantics.specs.Syntax.{Query}
use Rattle.semantics.specs.GroupStates.{entries_over}
use Rattle.semantics.specs.Conditions.{kept_records}
use Rattle.semantics.specs.ResultRows.{aggregate_functions}
use Rattle.semantics.specs.Sets.{grouping_places}
use Rattle.semantics.specs.Parts.{ContentsForm, contents_over, newline_terminated, concatenated}
use Rattle.tables.specs.Folding.{refused_lines_of, valid_records_of}

-- ---- it is whole lines

feed-more : (byte : ℕ) (bytes : List ℕ) → EndsInFeed bytes → EndsInFeed (byte ∷ bytes)
feed-more byte bytes e = record { front = byte ∷ e.front; is = ap (λ bs. byte ∷ bs) e.is }

feed-one : (byte : ℕ) (is_feed : Bool) → (byte == line_feed) ≡ is_feed → EndsInFeed (cond is_feed (byte ∷ []) (byte ∷ line_feed ∷ []))
feed-one byte true e = record { front = []; is = ap (λ b. b ∷ []) (eqb-true byte line_feed e) }
feed-one byte false e = record { front = byte ∷ []; is = refl }

closed-feed : (byte : ℕ) (bytes : List ℕ) → EndsInFeed (newline_terminated (byte ∷ bytes))
closed-feed byte [] = feed-one byte (byte == line_feed) refl
closed-feed byte (next ∷ bytes) = feed-more byte (newline_terminated (next ∷ bytes)) (closed-feed next bytes)

pub closed-whole : (input : List ℕ) → AreWholeLines (newline_terminated input)
closed-whole [] = inl refl
closed-whole (byte ∷ bytes) = inr (closed-feed byte bytes)

-- so are inputs, one behind the other
whole-more : (front back : List ℕ) → AreWholeLines front → AreWholeLines back → AreWholeLines (front ++ back)
whole-more front back (inl none) whole = subst AreWholeLines (ap (λ xs. xs ++ back) (sym none)) whole
whole-more front back (inr feed) (inl none) = inr (subst EndsInFeed (sym (append-nil front) ∙ ap (λ xs. front ++ xs) (sym none)) feed)
whole-more front back (inr feed) (inr more) = inr record { front = front ++ more.front; is = ap (λ xs. front ++ xs) more.is ∙ sym (append_assoc front more.front (line_feed ∷ [])) }

pub concatenated-whole : (inputs : List (List ℕ)) → AreWholeLines (concatenated inputs)
concatenated-whole [] = inl refl
concatenated-whole (input ∷ inputs) = subst AreWholeLines (sym (flat_map-cons newline_terminated input inputs)) (whole-more (newline_terminated input) (concatenated inputs) (closed-whole input) (concatenated-whole inputs))

-- ---- it has the lines of the input

abbrev parts : List ℕ → List (List ℕ)
parts bytes = slice_split (λ b. b == line_feed) bytes

not_empty : (byte : ℕ) (part : List ℕ) → (length (byte ∷ part) == 0) ≡ false
not_empty byte part = grind (arith, nat_tests)

-- a byte in front of parts, of which the first has a byte or there are two
onto-first : (byte z : ℕ) (is_feed : Bool) (ps : List (List ℕ)) → 0 < length ps
    → without_empty_last (onto_first byte (cond is_feed ([] ∷ ps) (onto_first z ps))) ≡ onto_first byte (without_empty_last (cond is_feed ([] ∷ ps) (onto_first z ps)))
onto-first byte z is_feed [] l = absurd (omega (arith, l))
onto-first byte z true (p ∷ ps) l = refl
onto-first byte z false (p ∷ []) l = rw (not_empty byte (z ∷ p), not_empty z p) refl
onto-first byte z false (p ∷ next ∷ ps) l = refl

feed-first : (ps : List (List ℕ)) → 0 < length ps → without_empty_last ([] ∷ ps) ≡ [] ∷ without_empty_last ps
feed-first [] l = absurd (omega (arith, l))
feed-first (p ∷ ps) l = refl

some-parts : (bytes : List ℕ) → 0 < length (parts bytes)
some-parts bytes = omega (arith, length-slice_split (λ b. b == line_feed) bytes)

first-line : (byte z : ℕ) (is_feed : Bool) (bytes : List ℕ)
    → without_empty_last (cond is_feed ([] ∷ parts (z ∷ bytes)) (onto_first byte (parts (z ∷ bytes)))) ≡ cond is_feed ([] ∷ lines (z ∷ bytes)) (onto_first byte (lines (z ∷ bytes)))
first-line byte z true bytes = feed-first (parts (z ∷ bytes)) (some-parts (z ∷ bytes))
first-line byte z false bytes = onto-first byte z (z == line_feed) (parts bytes) (some-parts bytes)

lines-cons : (byte : ℕ) (bytes : List ℕ) → 0 < length bytes → lines (byte ∷ bytes) ≡ cond (byte == line_feed) ([] ∷ lines bytes) (onto_first byte (lines bytes))
lines-cons byte [] l = absurd (omega (arith, l))
lines-cons byte (z ∷ bytes) l = first-line byte z (byte == line_feed) bytes

lines-one : (byte : ℕ) (is_feed : Bool) → (byte == line_feed) ≡ is_feed → lines (cond is_feed (byte ∷ []) (byte ∷ line_feed ∷ [])) ≡ lines (byte ∷ [])
lines-one byte true e = refl
lines-one byte false e =
    lines-cons byte (line_feed ∷ []) (omega arith)
    ∙ ap (λ f. cond f ([] ∷ [] ∷ []) ((byte ∷ []) ∷ [])) e
    ∙ sym (ap (λ f. without_empty_last (cond f ([] ∷ [] ∷ []) ((byte ∷ []) ∷ []))) e ∙ ap (λ f. cond f [] ((byte ∷ []) ∷ [])) (not_empty byte []))

closed-some : (byte : ℕ) (bytes : List ℕ) → 0 < length (newline_terminated (byte ∷ bytes))
closed-some byte [] = some (byte == line_feed)
  where
    some : (f : Bool) → 0 < length (cond f (byte ∷ []) (byte ∷ line_feed ∷ []))
    some true = omega arith
    some false = omega arith
closed-some byte (next ∷ bytes) = omega arith

pub closed-lines : (input : List ℕ) → lines (newline_terminated input) ≡ lines input
closed-lines [] = refl
closed-lines (byte ∷ []) = lines-one byte (byte == line_feed) refl
closed-lines (byte ∷ next ∷ bytes) =
    lines-cons byte (newline_terminated (next ∷ bytes)) (closed-some next bytes)
    ∙ ap (λ ls. cond (byte == line_feed) ([] ∷ ls) (onto_first byte ls)) (closed-lines (next ∷ bytes))
    ∙ sym (lines-cons byte (next ∷ bytes) (omega arith))

-- so it has the same contents
contents-of : List Field → Query → List (List ℕ) → ContentsForm
contents-of fields q ls = record {
  lines = length ls;
  refused = refused_lines_of fields ls;
  groups = entries_over (grouping_places fields q) (aggregate_functions fields q) (kept_records fields q (valid_records_of fields ls));
}

pub closed-contents : (fields : List Field) (q : Query) (input : List ℕ) → contents_over fields q input ≡ contents_over fields q (newline_terminated input)
unfolding contents-of
closed-contents fields q input = ap (contents-of fields q) (sym (closed-lines input))
