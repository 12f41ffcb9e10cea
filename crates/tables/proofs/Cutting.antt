-- The pieces of an input that was cut between its lines.
use Rattle.std.proofs.Common.{◌≡◌, ◌+◌, ℕ, List, [], ◌∷◌, ◌++◌, length, map, filter_map, Result, Ok, Err, refl, sym, ap, ◌∙◌, arith, append-nil, append_assoc}
use Rattle.std.proofs.lemmas.List.{map-append, length-map}
use Rattle.std.proofs.lemmas.List.Elements.{filter_map-append}
use Rattle.std.specs.List.{enumerate_from}
use Rattle.std.specs.Result.{result_ok}
use Rattle.semantics.specs.Values.{Datum}
use Rattle.semantics.specs.Columns.{Field}
use Rattle.semantics.specs.declared.line_fault.LineFault.{LineFault}
use Rattle.semantics.specs.Records.{valid_records, refused_lines, decode_line}
use Rattle.semantics.specs.Lines.{line_feed, lines}
use Rattle.lines.specs.Pieces.{AllButLast, EndsInFeed}
use Rattle.lines.proofs.Splits as splits
use Rattle.tables.specs.Folding.{valid_records_of}
use Rattle.tables.specs.Notes.{note_of, refused_lines_from}
use Rattle.tables.specs.Pieces.{IndexedPiece, IsCutInto, all_lines, joined_bytes, records_of}
use Rattle.tables.proofs.Reading.{enumerate-append, numbered_fault}

behind-feed : (bytes rest : List ℕ) → EndsInFeed bytes → lines (bytes ++ rest) ≡ lines bytes ++ lines rest
behind-feed bytes rest e =
    ap (λ b. lines (b ++ rest)) e.is
    ∙ ap lines (append_assoc e.front (line_feed ∷ []) rest)
    ∙ splits.lines-append e.front rest
    ∙ ap (λ b. lines b ++ lines rest) (sym e.is)

-- the lines of the pieces are those of what they are joined
pub cut-lines : (pieces : List IndexedPiece) → AllButLast (λ piece. EndsInFeed piece.bytes) pieces → all_lines pieces ≡ lines (joined_bytes pieces)
cut-lines [] f = refl
cut-lines (p ∷ []) f = append-nil (lines p.bytes) ∙ ap lines (sym (append-nil p.bytes))
cut-lines (p ∷ q ∷ more) f = ap (λ ls. lines p.bytes ++ ls) (cut-lines (q ∷ more) f.1) ∙ sym (behind-feed p.bytes (joined_bytes (q ∷ more)) f.0)

-- the valid records of the pieces are those of all their lines
pub records-valid : (fields : List Field) (pieces : List IndexedPiece) → records_of fields pieces ≡ valid_records_of fields (all_lines pieces)
records-valid fields [] = refl
records-valid fields (p ∷ more) =
    ap (λ rows. valid_records fields p.bytes ++ rows) (records-valid fields more)
    ∙ sym (ap (filter_map result_ok) (map-append (decode_line fields) (lines p.bytes) (all_lines more)) ∙ filter_map-append result_ok (map (decode_line fields) (lines p.bytes)) (map (decode_line fields) (all_lines more)))

-- the refused ones of these lines, the first of which has the number n
abbrev pub refused_from : List Field → ℕ → List (List ℕ) → List (ℕ × LineFault)
refused_from fields n ls = filter_map numbered_fault (enumerate_from n (map (decode_line fields) ls))

shifted : (n m : ℕ) (rs : List (Result (List Datum) LineFault))
    → map (λ line. (n + line.0, line.1)) (filter_map numbered_fault (enumerate_from m rs)) ≡ filter_map numbered_fault (enumerate_from (n + m) rs)
shifted n m [] = refl
shifted n m (Ok row ∷ rs) = shifted n (m + 1) rs ∙ ap (λ k. filter_map numbered_fault (enumerate_from k rs)) (let e : n + (m + 1) ≡ n + m + 1 = omega arith in e)
shifted n m (Err fault ∷ rs) = ap (λ ls. (n + m, fault) ∷ ls) (shifted n (m + 1) rs ∙ ap (λ k. filter_map numbered_fault (enumerate_from k rs)) (let e : n + (m + 1) ≡ n + m + 1 = omega arith in e))

refused_from-append : (fields : List Field) (n : ℕ) (ls ms : List (List ℕ)) → refused_from fields n (ls ++ ms) ≡ refused_from fields n ls ++ refused_from fields (n + length ls) ms
refused_from-append fields n ls ms =
    ap (λ rs. filter_map numbered_fault (enumerate_from n rs)) (map-append (decode_line fields) ls ms)
    ∙ ap (filter_map numbered_fault) (enumerate-append n (map (decode_line fields) ls) (map (decode_line fields) ms))
    ∙ filter_map-append numbered_fault (enumerate_from n (map (decode_line fields) ls)) (enumerate_from (n + length (map (decode_line fields) ls)) (map (decode_line fields) ms))
    ∙ ap (λ k. refused_from fields n ls ++ filter_map numbered_fault (enumerate_from (n + k) (map (decode_line fields) ms))) (length-map ls (decode_line fields))

-- numbered one piece after the other, the refused lines are those of all lines
pub numbered-lines : (fields : List Field) (n : ℕ) (pieces : List IndexedPiece) → refused_lines_from n (map (note_of fields) pieces) ≡ refused_from fields (n + 1) (all_lines pieces)
numbered-lines fields n [] = refl
numbered-lines fields n (p ∷ more) =
    let ls = lines p.bytes in
    ap (λ front. front ++ refused_lines_from (n + length ls) (map (note_of fields) more)) (shifted n 1 (map (decode_line fields) ls))
    ∙ ap (λ rest. refused_from fields (n + 1) ls ++ rest) (numbered-lines fields (n + length ls) more)
    ∙ ap (λ k. refused_from fields (n + 1) ls ++ refused_from fields k (all_lines more)) (let e : n + length ls + 1 ≡ n + 1 + length ls = omega arith in e)
    ∙ sym (refused_from-append fields (n + 1) ls (all_lines more))

-- what the pieces of an input that was cut between its lines come to
pub cut-records : (fields : List Field) (input : List ℕ) (pieces : List IndexedPiece) → IsCutInto input pieces → records_of fields pieces ≡ valid_records fields input
cut-records fields input pieces c = records-valid fields pieces ∙ ap (valid_records_of fields) (cut-lines pieces c.feeds ∙ ap lines c.joined)

pub cut-refused : (fields : List Field) (input : List ℕ) (pieces : List IndexedPiece) → IsCutInto input pieces → refused_lines_from 0 (map (note_of fields) pieces) ≡ refused_lines fields input
cut-refused fields input pieces c =
    numbered-lines fields 0 pieces
    ∙ ap (λ n. refused_from fields n (all_lines pieces)) (let e : 0 + 1 ≡ 1 = omega arith in e)
    ∙ ap (refused_from fields 1) (cut-lines pieces c.feeds ∙ ap lines c.joined)
