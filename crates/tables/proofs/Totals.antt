-- All pieces of an input, put together one after the other.
use Rattle.std.proofs.Common.{◌≡◌, ◌+◌, ◌<◌, ◌≤◌, ◌^◌, min, ℕ, zero, suc, List, [], ◌∷◌, ◌++◌, length, take, refl, sym, ap, ◌∙◌, arith}
use Rattle.std.proofs.lemmas.List.{get_or-map, length-map, take_all}
use Rattle.std.proofs.lemmas.List.FromFn.{get_or-enumerate_from, length-enumerate_from}
use Rattle.std.proofs.Math.Seq.{take-suc}
use Rattle.std.specs.List.{enumerate_from, slice_index_or}
use Rattle.lines.specs.declared.pieces.Piece.{Piece}
use Rattle.pool.specs.Totals as pool
use Rattle.pool.proofs.Sums.{total_load, total_weight}
use Rattle.query_plan.specs.Planned.{PlannedQuery}
use Rattle.tables.specs.Jobs.{total_of}
use Rattle.tables.specs.Laws.{pieces-append, results_lawful}
use Rattle.tables.specs.Partials.{both, of_piece, of_pieces}
use Rattle.tables.specs.Pieces.{IndexedPiece, all_lines, indexed_pieces, indexed_pieces_from, no_bytes, piece_at, piece_from, refused_lines_within, with_index}
use Rattle.tables.specs.States.{PartialState}

-- ---- pieces by their numbers

-- each next one stands behind those before it
abbrev AreNumbered : (ℕ → IndexedPiece) → List IndexedPiece → Type 0
AreNumbered piece pieces = (k : ℕ) → k < length pieces → take (suc k) pieces ≡ take k pieces ++ piece k ∷ []

total-first : (plan : PlannedQuery) (piece : ℕ → IndexedPiece) (pieces : List IndexedPiece) → AreNumbered piece pieces → (k : ℕ) → k ≤ length pieces
    → total_of plan piece k ≡ of_pieces plan (take k pieces)
total-first plan piece pieces numbered zero le = refl
total-first plan piece pieces numbered (suc k) le =
    ap (λ m. both m (of_piece plan (piece k))) (total-first plan piece pieces numbered k (omega (arith, le)))
    ∙ sym (pieces-append plan (take k pieces) (piece k ∷ []))
    ∙ ap (of_pieces plan) (sym (numbered k (omega (arith, le))))

total-numbered : (plan : PlannedQuery) (piece : ℕ → IndexedPiece) (pieces : List IndexedPiece) → AreNumbered piece pieces
    → total_of plan piece (length pieces) ≡ of_pieces plan pieces
total-numbered plan piece pieces numbered =
    total-first plan piece pieces numbered (length pieces) (omega arith) ∙ ap (of_pieces plan) (take_all (length pieces) pieces (omega arith))

-- ---- all pieces of an input

-- there are as many with their indexes
length-from : (first : ℕ) (input : List ℕ) (pieces : List Piece) → length (indexed_pieces_from first input pieces) ≡ length pieces
length-from first input pieces = length-map (enumerate_from first pieces) (with_index input) ∙ length-enumerate_from first pieces

pub length-indexed : (input : List ℕ) (pieces : List Piece) → length (indexed_pieces input pieces) ≡ length pieces
length-indexed input pieces = length-from 0 input pieces

-- the pieces up to one, and that one
one-more : (first : ℕ) (input : List ℕ) (pieces : List Piece) (k : ℕ) → k < length pieces
    → take (suc k) (indexed_pieces_from first input pieces) ≡ take k (indexed_pieces_from first input pieces) ++ with_index input (first + k, slice_index_or pieces k no_bytes) ∷ []
one-more first input pieces k lt =
    take-suc (indexed_pieces_from first input pieces) k (with_index input (0, no_bytes)) (omega (arith, lt, length-from first input pieces))
    ∙ ap (λ piece. take k (indexed_pieces_from first input pieces) ++ piece ∷ [])
    (get_or-map (with_index input) (enumerate_from first pieces) k (0, no_bytes) (with_index input (0, no_bytes)) (omega (arith, lt, length-enumerate_from first pieces))
    ∙ ap (with_index input) (get_or-enumerate_from first pieces k (0, no_bytes) lt))

-- the total of all pieces is what they come to
pub total-all : (plan : PlannedQuery) (input : List ℕ) (pieces : List Piece)
    → total_of plan (piece_at input pieces) (length pieces) ≡ of_pieces plan (indexed_pieces input pieces)
total-all plan input pieces =
    ap (total_of plan (piece_at input pieces)) (sym (length-indexed input pieces))
    ∙ total-numbered plan (piece_at input pieces) (indexed_pieces input pieces)
    (λ k lt. one-more 0 input pieces k (omega (arith, lt, length-indexed input pieces))
    ∙ ap (λ n. take k (indexed_pieces input pieces) ++ with_index input (n, slice_index_or pieces k no_bytes) ∷ []) (let e : 0 + k ≡ k = omega arith in e))

-- and so with indexes from a first one on
pub total-from : (plan : PlannedQuery) (first : ℕ) (input : List ℕ) (pieces : List Piece) → first + length pieces < 2 ^ 32
    → total_of plan (piece_from first input pieces) (length pieces) ≡ of_pieces plan (indexed_pieces_from first input pieces)
total-from plan first input pieces few =
    ap (total_of plan (piece_from first input pieces)) (sym (length-from first input pieces))
    ∙ total-numbered plan (piece_from first input pieces) (indexed_pieces_from first input pieces)
    (λ k lt. one-more first input pieces k (omega (arith, lt, length-from first input pieces))
    ∙ ap (λ n. take k (indexed_pieces_from first input pieces) ++ with_index input (n, slice_index_or pieces k no_bytes) ∷ [])
    (let e : first + k ≡ min (first + k) 4294967295 = omega (arith, lt, few, length-from first input pieces) in e))

-- so are the numbers of refused lines and of lines, added up
pub refused-all : (plan : PlannedQuery) (input : List ℕ) (pieces : List Piece)
    → pool.sum_below (λ i. (of_piece plan (piece_at input pieces i)).refused) (length pieces) ≡ length (refused_lines_within plan.fields (indexed_pieces input pieces))
refused-all plan input pieces =
    sym (total_weight (results_lawful plan (piece_at input pieces)) (length pieces)) ∙ ap (λ (m : PartialState). m.refused) (total-all plan input pieces)

pub lines-all : (plan : PlannedQuery) (input : List ℕ) (pieces : List Piece)
    → pool.sum_below (λ i. (of_piece plan (piece_at input pieces i)).lines) (length pieces) ≡ length (all_lines (indexed_pieces input pieces))
lines-all plan input pieces =
    sym (total_load (results_lawful plan (piece_at input pieces)) (length pieces)) ∙ ap (λ (m : PartialState). m.lines) (total-all plan input pieces)
