-- Joins of joins, and of the two halves of an input.
use Rattle.std.proofs.Common.{◌≡◌, ℕ, List, [], ◌∷◌, ◌++◌, inl, inr, map, refl, sym, ap, ◌∙◌, append-nil}
use Rattle.std.proofs.lemmas.Grind.{flat_map-append}
use Rattle.std.specs.List.{flat_map}
use Rattle.lines.specs.Pieces.{AreWholeLines}
use Rattle.semantics.specs.Columns.{Field}
use Rattle.semantics.specs.Lines.{line_feed}
use Rattle.semantics.specs.Parts.{newline_terminated, concatenated, part_text, text_of, values_with, with_checksum}
use Rattle.semantics.specs.Syntax.{Query}
use Rattle.parts.proofs.Closing.{closed-contents, concatenated-whole}

-- whole lines lack no line feed
feed-closed : (front : List ℕ) → newline_terminated (front ++ line_feed ∷ []) ≡ front ++ line_feed ∷ []
feed-closed [] = refl
feed-closed (byte ∷ []) = refl
feed-closed (byte ∷ next ∷ bytes) = ap (λ bs. byte ∷ bs) (feed-closed (next ∷ bytes))

whole-closed : (bytes : List ℕ) → AreWholeLines bytes → newline_terminated bytes ≡ bytes
whole-closed bytes (inl none) = ap newline_terminated none ∙ sym none
whole-closed bytes (inr feed) = ap newline_terminated feed.is ∙ feed-closed feed.front ∙ sym feed.is

-- the join of joins is that of all inputs
pub joins-joined : (trees : List (List (List ℕ))) → concatenated (map concatenated trees) ≡ concatenated (flat_map (λ inputs. inputs) trees)
joins-joined [] = refl
joins-joined (inputs ∷ trees) =
    ap (λ bs. bs ++ concatenated (map concatenated trees)) (whole-closed (concatenated inputs) (concatenated-whole inputs))
    ∙ ap (λ bs. concatenated inputs ++ bs) (joins-joined trees)
    ∙ sym (flat_map-append newline_terminated inputs (flat_map (λ inputs. inputs) trees))

-- a part does not tell whether its input lacks the last line feed
pub closed-part : (fields : List Field) (q : Query) (input : List ℕ) → part_text fields q (newline_terminated input) ≡ part_text fields q input
closed-part fields q input = ap (λ c. with_checksum (text_of (values_with fields q c))) (sym (closed-contents fields q input))

-- an input is closed where its back is
behind-closed : (front : List ℕ) (byte : ℕ) (bytes : List ℕ) → newline_terminated (front ++ byte ∷ bytes) ≡ front ++ newline_terminated (byte ∷ bytes)
behind-closed [] byte bytes = refl
behind-closed (one ∷ []) byte bytes = refl
behind-closed (one ∷ next ∷ front) byte bytes = ap (λ bs. one ∷ bs) (behind-closed (next ∷ front) byte bytes)

halves-closed : (first second : List ℕ) → newline_terminated first ≡ first → newline_terminated (first ++ second) ≡ first ++ newline_terminated second
halves-closed first [] whole = ap newline_terminated (append-nil first) ∙ whole ∙ sym (append-nil first)
halves-closed first (byte ∷ bytes) whole = behind-closed first byte bytes

-- of an input whose first half is whole lines, the part is that of the two halves, joined
pub halves-joined : (fields : List Field) (q : Query) (first second : List ℕ) → newline_terminated first ≡ first → part_text fields q (concatenated (first ∷ second ∷ [])) ≡ part_text fields q (first ++ second)
halves-joined fields q first second whole =
    ap (part_text fields q) (ap (λ bs. newline_terminated first ++ bs) (append-nil (newline_terminated second)) ∙ ap (λ bs. bs ++ newline_terminated second) whole ∙ sym (halves-closed first second whole))
    ∙ closed-part fields q (first ++ second)
