-- What is noted of a piece beside its groups.
use Rattle.std.specs.Prelude.{ℕ, suc, ◌+◌, ◌≤◌, List, ◌∷◌, ◌++◌, length, map, All, []}
use Rattle.std.specs.List.{sum_by}
use Rattle.std.specs.Global.{Vec}
use Rattle.std.specs.Cmp.Lexicographic.{slice_cmp}
use Rattle.std.specs.Ordering.{nat_cmp, ordering_then}
use Rattle.std.specs.declared.cmp.Ordering.{Ordering}
use Rattle.semantics.specs.Columns.{Field}
use Rattle.semantics.specs.declared.line_fault.LineFault.{LineFault}
use Rattle.semantics.specs.declared.line_fault.LineFault.TheVariants.{TooLong, NoJson, NoObject, BadValue}
use Rattle.semantics.specs.Lines.{lines}
use Rattle.semantics.specs.Records.{refused_lines}
use Rattle.tables.specs.declared.piece_refusals.PieceRefusals.{PieceRefusals}
use Rattle.tables.specs.Pieces.{IndexedPiece}

-- The piece's index, the number of its lines, and its refused lines by their numbers within it.
pub record Noted : Type 0 where
  pub index : ℕ
  pub lines : ℕ
  pub refused : List (ℕ × LineFault)

-- The note of a piece.
abbrev pub note_of : List Field → IndexedPiece → Noted
note_of fields piece = record { index = piece.index; lines = length (lines piece.bytes); refused = refused_lines fields piece.bytes }

-- ---- in their order

-- a number for each fault
abbrev pub fault_number : LineFault → ℕ
fault_number TooLong = 0
fault_number NoJson = 1
fault_number NoObject = 2
fault_number (BadValue column) = suc (suc (suc column))

-- How two refused lines stand to each other: by their numbers, and of one number by their faults.
abbrev pub line_order : ℕ × LineFault → ℕ × LineFault → Ordering
line_order l m = ordering_then (nat_cmp l.0 m.0) (nat_cmp (fault_number l.1) (fault_number m.1))

-- How two notes stand to each other: by their indexes, and of one index by all else, so that a note
-- ties with itself alone
abbrev pub note_order : Noted → Noted → Ordering
note_order a b = ordering_then (nat_cmp a.index b.index) (ordering_then (nat_cmp a.lines b.lines) (slice_cmp line_order a.refused b.refused))

abbrev pub note_in : PieceRefusals → Noted
note_in note = record { index = note.index; lines = note.lines; refused = note.refused }

abbrev pub notes_in : Vec PieceRefusals → List Noted
notes_in notes = map note_in notes.items

-- All lines that the notes count.
abbrev pub line_count : List Noted → ℕ
line_count notes = sum_by (λ note. note.lines) notes

-- No refused line has a number above that of the piece's lines.
abbrev pub IsWellNumbered : Noted → Type 0
IsWellNumbered note = All (λ line. line.0 ≤ note.lines) note.refused

-- The refused lines of the notes, in their order, each by its number within its piece and the lines
-- that are counted before
abbrev pub refused_lines_from : ℕ → List Noted → List (ℕ × LineFault)
refused_lines_from before [] = []
refused_lines_from before (note ∷ notes) = map (λ line. (before + line.0, line.1)) note.refused ++ refused_lines_from (before + note.lines) notes
