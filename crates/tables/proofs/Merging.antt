-- Results over some pieces and over others, put together.
use Rattle.std.proofs.Common.{◌≡◌, ◌+◌, ℕ, List, [], ◌∷◌, ◌++◌, map, sym, ap, subst, ◌∙◌, arith}
use Rattle.std.proofs.lemmas.List.{map-append}
use Rattle.std.proofs.lemmas.List.Sums.{sum_by-append, sum_by-cons}
use Rattle.std.proofs.lemmas.List.Elements.{All-cons}
use Rattle.std.specs.List.{All}
use Rattle.semantics.specs.Columns.{Field}
use Rattle.group_tables.specs.Bags.{SameBag}
use Rattle.group_tables.proofs.Bags.{bag-append}
use Rattle.tables.specs.Notes.{IsWellNumbered, Noted, line_count, note_in, note_of}
use Rattle.tables.specs.declared.piece_refusals.PieceRefusals.{PieceRefusals}
use Rattle.tables.specs.Pieces.{IndexedPiece}

-- ---- the notes of both

pub notes-append : (fields : List Field) (pieces more : List IndexedPiece) (ns ms : List Noted) → SameBag (map (note_of fields) pieces) ns → SameBag (map (note_of fields) more) ms
    → SameBag (map (note_of fields) (pieces ++ more)) (ns ++ ms)
notes-append fields pieces more ns ms a b = subst (λ xs. SameBag xs (ns ++ ms)) (sym (map-append (note_of fields) pieces more)) (bag-append (map (note_of fields) pieces) ns (map (note_of fields) more) ms a b)

-- ---- notes

pub counted-append : (ns ms : List Noted) (m n : ℕ) → line_count ns ≡ m → line_count ms ≡ n → line_count (ns ++ ms) ≡ m + n
counted-append ns ms m n a b = let s = sum_by-append (λ (note : Noted). note.lines) ns ms in omega (arith, s, a, b)

-- no notes
pub no-notes : (ns : List PieceRefusals) → ns ≡ [] → (line_count (map note_in ns) ≡ 0) × All IsWellNumbered (map note_in ns)
no-notes ns e = (ap (λ (xs : List PieceRefusals). line_count (map note_in xs)) e, subst (λ (xs : List PieceRefusals). All IsWellNumbered (map note_in xs)) (sym e) (λ k d l. absurd (omega (arith, l))))

-- the one note of a piece
pub one-note : (ns : List PieceRefusals) (note : PieceRefusals) → ns ≡ note ∷ [] → IsWellNumbered (note_in note) → (line_count (map note_in ns) ≡ note.lines) × All IsWellNumbered (map note_in ns)
one-note ns note e w = (
  ap (λ (xs : List PieceRefusals). line_count (map note_in xs)) e ∙ (let s = sum_by-cons (λ (n : Noted). n.lines) (note_in note) [] in omega (arith, s)),
  subst (λ (xs : List PieceRefusals). All IsWellNumbered (map note_in xs)) (sym e) (All-cons IsWellNumbered (note_in note) [] w (λ k d l. absurd (omega (arith, l)))),
)
