-- A result over some pieces, and one piece more.
use Rattle.std.proofs.Common.{◌≡◌, ◌+◌, ◌<◌, ◌≤◌, ◌^◌, ℕ, List, [], ◌∷◌, ◌++◌, length, map, refl, sym, ap, subst, ◌∙◌, arith, append-nil, length-append}
use Rattle.std.proofs.lemmas.List.{map-append}
use Rattle.std.proofs.lemmas.List.Elements.{All-append}
use Rattle.std.specs.List.{All}
use Rattle.semantics.specs.Columns.{Field}
use Rattle.semantics.specs.declared.line_fault.LineFault.{LineFault}
use Rattle.semantics.specs.Records.{valid_records, refused_lines}
use Rattle.semantics.specs.Lines.{lines}
use Rattle.semantics.specs.Conditions.{kept_records}
use Rattle.group_tables.specs.Bags.{SameBag}
use Rattle.tables.specs.declared.piece_refusals.PieceRefusals.{PieceRefusals}
use Rattle.tables.specs.Notes.{IsWellNumbered, Noted, line_count, note_in, note_of}
use Rattle.tables.specs.Pieces.{IndexedPiece, all_lines, records_of, refused_lines_within}
use Rattle.tables.specs.Laws.{lines-append, records-append, refused-append}
use Rattle.tables.proofs.Merging.{counted-append, notes-append, one-note}
use Rattle.tables.proofs.Reading.{length-valid_of, length-kept}
use Rattle.query_plan.specs.Planned.{PlannedQuery}

-- ---- before the first line of the piece

-- pieces have at most as many valid records as lines
pub few-records : (fields : List Field) (pieces : List IndexedPiece) → length (records_of fields pieces) ≤ length (all_lines pieces)
few-records fields [] = omega arith
few-records fields (p ∷ pieces) =
    let more = few-records fields pieces in
    let here = length-valid_of fields (lines p.bytes) in
    let a = length-append (valid_records fields p.bytes) (records_of fields pieces) in
    let b = length-append (lines p.bytes) (all_lines pieces) in
    omega (arith, more, here, a, b)

-- fewer than 2^63 lines have fewer than 2^63 records that are kept
pub few-kept : (plan : PlannedQuery) (pieces : List IndexedPiece) (lines : ℕ) → lines ≡ length (all_lines pieces) → lines < 2 ^ 63
    → length (kept_records plan.fields plan.query (records_of plan.fields pieces)) < 2 ^ 63
few-kept plan pieces lines e few =
    let kept_records = length-kept plan (records_of plan.fields pieces) in
    let records = few-records plan.fields pieces in
    omega (arith, kept_records, records, e, few)

-- ---- the piece behind the others

abbrev piece_at : ℕ → List ℕ → IndexedPiece
piece_at index bytes = record { index = index; bytes = bytes }

pub records-more : (fields : List Field) (pieces : List IndexedPiece) (index : ℕ) (bytes : List ℕ)
    → records_of fields (pieces ++ piece_at index bytes ∷ []) ≡ records_of fields pieces ++ valid_records fields bytes
records-more fields pieces index bytes =
    records-append fields pieces (piece_at index bytes ∷ []) ∙ ap (λ rows. records_of fields pieces ++ rows) (append-nil (valid_records fields bytes))

pub lines-more : (pieces : List IndexedPiece) (index : ℕ) (bytes : List ℕ)
    → length (all_lines (pieces ++ piece_at index bytes ∷ [])) ≡ length (all_lines pieces) + length (lines bytes)
lines-more pieces index bytes =
    lines-append pieces (piece_at index bytes ∷ []) ∙ ap (λ ls. length (all_lines pieces) + length ls) (append-nil (lines bytes))

pub refused-more : (fields : List Field) (pieces : List IndexedPiece) (index : ℕ) (bytes : List ℕ)
    → length (refused_lines_within fields (pieces ++ piece_at index bytes ∷ [])) ≡ length (refused_lines_within fields pieces) + length (refused_lines fields bytes)
refused-more fields pieces index bytes =
    refused-append fields pieces (piece_at index bytes ∷ []) ∙ ap (λ rs. length (refused_lines_within fields pieces) + length rs) (append-nil (refused_lines fields bytes))

abbrev noted : ℕ → ℕ → List (ℕ × LineFault) → Noted
noted index n rs = record { index = index; lines = n; refused = rs }

-- the note of the piece behind those of the others
pub notes-more : (fields : List Field) (pieces : List IndexedPiece) (ns : List Noted) (index : ℕ) (bytes : List ℕ) (n : ℕ) (rs : List (ℕ × LineFault))
    → n ≡ length (lines bytes) → rs ≡ refused_lines fields bytes → SameBag (map (note_of fields) pieces) ns
    → SameBag (map (note_of fields) (pieces ++ piece_at index bytes ∷ [])) (ns ++ noted index n rs ∷ [])
notes-more fields pieces ns index bytes n rs e f p =
    notes-append fields pieces (piece_at index bytes ∷ []) ns (noted index n rs ∷ []) p
    (subst (λ (note : Noted). SameBag (map (note_of fields) (piece_at index bytes ∷ [])) (note ∷ []))
    (ap (λ m. noted index m (refused_lines fields bytes)) (sym e) ∙ ap (noted index n) (sym f))
    (λ f. refl))

-- one note more
pub one-noted_more : (old new : List PieceRefusals) (note : PieceRefusals) (n : ℕ) → new ≡ old ++ note ∷ [] → line_count (map note_in old) ≡ n → All IsWellNumbered (map note_in old)
    → IsWellNumbered (note_in note) → (line_count (map note_in new) ≡ n + note.lines) × All IsWellNumbered (map note_in new)
one-noted_more old new note n e counted well w =
    let one = one-note (note ∷ []) note refl w in
    let joined = ap (map note_in) e ∙ map-append note_in old (note ∷ []) in (
      ap line_count joined ∙ counted-append (map note_in old) (note_in note ∷ []) n note.lines counted one.0,
      subst (λ (ns : List Noted). All IsWellNumbered ns) (sym joined) (All-append IsWellNumbered (map note_in old) (note_in note ∷ []) well one.1),
    )
