-- Pieces of an input in any order, the records of their lines, and their refused lines by number.
use Rattle.std.specs.Prelude.{◌≡◌, ℕ, ◌+◌, min, nat_eq, nat_lt, List, length, map, filter, slice_index_or}
use Rattle.std.specs.List.{IsDistinct, enumerate_from, flat_map}
use Rattle.std.specs.List.Sorted.{IsStrictlyIncreasing}
use Rattle.semantics.specs.Columns.{Field}
use Rattle.semantics.specs.declared.line_fault.LineFault.{LineFault}
use Rattle.semantics.specs.Lines.{lines}
use Rattle.semantics.specs.Records.{valid_records, refused_lines}
use Rattle.lines.specs.Pieces.{AllButLast, EndsInFeed, bytes_of}
use Rattle.lines.specs.declared.pieces.Piece.{Piece}
use Rattle.group_tables.specs.Bags.{SameBag}
use Rattle.semantics.specs.Groups.{Record}

-- a piece of an input: its index among the pieces, and its bytes
pub record IndexedPiece : Type 0 where
  pub index : ℕ
  pub bytes : List ℕ

-- The bytes of the pieces, one after the other.
abbrev pub joined_bytes : List IndexedPiece → List ℕ
joined_bytes pieces = flat_map (λ piece. piece.bytes) pieces

-- All lines of the pieces.
abbrev pub all_lines : List IndexedPiece → List (List ℕ)
all_lines pieces = flat_map (λ piece. lines piece.bytes) pieces

-- The valid records of all lines of the pieces.
abbrev pub records_of : List Field → List IndexedPiece → List Record
records_of fields pieces = flat_map (λ piece. valid_records fields piece.bytes) pieces

-- The refused lines of the pieces, each by its number within its piece.
abbrev pub refused_lines_within : List Field → List IndexedPiece → List (ℕ × LineFault)
refused_lines_within fields pieces = flat_map (λ piece. refused_lines fields piece.bytes) pieces

-- The pieces with a smaller index.
abbrev pub pieces_before : ℕ → List IndexedPiece → List IndexedPiece
pieces_before index pieces = filter (λ piece. nat_lt piece.index index) pieces

-- The refused lines of the pieces, each by its number within its piece and the number of all lines
-- of the pieces with a smaller index
abbrev pub refused_lines_numbered : List Field → List IndexedPiece → List (ℕ × LineFault)
refused_lines_numbered fields pieces =
    flat_map (λ piece. map (λ line. (length (all_lines (pieces_before piece.index pieces)) + line.0, line.1)) (refused_lines fields piece.bytes)) pieces

-- The pieces stand by their indexes, and none of these twice.
abbrev pub AreInOrder : List IndexedPiece → Type 0
AreInOrder pieces = IsStrictlyIncreasing (map (λ piece. piece.index) pieces)

-- No index stands twice.
abbrev pub HaveOwnIndexes : List IndexedPiece → Type 0
HaveOwnIndexes pieces = IsDistinct nat_eq (map (λ piece. piece.index) pieces)

-- The lines are the refused lines of the pieces by number, each as often as it is refused, and
-- their numbers ascend, none twice
pub record AreNumbered (fields : List Field) (pieces : List IndexedPiece) (lines : List (ℕ × LineFault)) : Type 0 where
  pub same : SameBag lines (refused_lines_numbered fields pieces)
  pub ascending : IsStrictlyIncreasing (map (λ line. line.0) lines)

-- The pieces stand in their order, are joined the input, and each but the last ends in a line feed.
pub record IsCutInto (input : List ℕ) (pieces : List IndexedPiece) : Type 0 where
  pub in_order : AreInOrder pieces
  pub joined : joined_bytes pieces ≡ input
  pub feeds : AllButLast (λ piece. EndsInFeed piece.bytes) pieces

-- ---- pieces of an input, by where they start and stop

-- a piece of the input beside its index
abbrev pub with_index : List ℕ → ℕ × Piece → IndexedPiece
with_index input piece = record { index = piece.0; bytes = bytes_of input piece.1 }

-- The pieces of the input with their indexes, from `first` on.
abbrev pub indexed_pieces_from : ℕ → List ℕ → List Piece → List IndexedPiece
indexed_pieces_from first input pieces = map (with_index input) (enumerate_from first pieces)

-- So from 0 on.
abbrev pub indexed_pieces : List ℕ → List Piece → List IndexedPiece
indexed_pieces input pieces = indexed_pieces_from 0 input pieces

-- The piece that starts and stops at the first byte, and so is empty.
abbrev pub no_bytes : Piece
no_bytes = record { start = 0; stop = 0 }

-- The piece of the input with this index; past the last piece an empty one.
abbrev pub piece_at : List ℕ → List Piece → ℕ → IndexedPiece
piece_at input pieces index = with_index input (index, slice_index_or pieces index no_bytes)

-- The piece of the input that comes so many behind the first one, which has the index `first`; past
-- the last piece an empty one. No index is above the greatest number of 32 bits.
abbrev pub piece_from : ℕ → List ℕ → List Piece → ℕ → IndexedPiece
piece_from first input pieces place = with_index input (min (first + place) 4294967295, slice_index_or pieces place no_bytes)
