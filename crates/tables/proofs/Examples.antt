-- The definitions, computed on examples: an input is the line `a` and, read behind it, the lines
-- `b` and `c`.
use Rattle.std.proofs.Common.{◌≡◌, ℕ, List, [], ◌∷◌, refl, codes}
use Rattle.lines.specs.declared.pieces.Piece.{Piece}
use Rattle.semantics.specs.Lists.{sorted_by}
use Rattle.semantics.specs.declared.line_fault.LineFault.{LineFault}
use Rattle.semantics.specs.declared.line_fault.LineFault.TheVariants.{NoJson, NoObject}
use Rattle.query_plan.specs.Planned.{PlannedQuery}
use Rattle.tables.specs.Notes.{Noted, note_order, refused_lines_from}
use Rattle.tables.specs.Partials.{concatenation, none, note_of_one, notes_of_one, one_piece}
use Rattle.tables.specs.Pieces.{IndexedPiece, indexed_pieces, indexed_pieces_from, piece_from}

-- the line, with its line feed
abbrev line : List ℕ → List ℕ
line [] = 10 ∷ []
line (byte ∷ bytes) = byte ∷ line bytes

abbrev rest : List ℕ
rest = 98 ∷ 10 ∷ 99 ∷ 10 ∷ []

-- the rest is cut into a piece for each line
abbrev pieces : List Piece
pieces = record { start = 0; stop = 2 } ∷ record { start = 2; stop = 4 } ∷ []

abbrev piece : ℕ → List ℕ → IndexedPiece
piece index bytes = record { index = index; bytes = bytes }

-- the front is one piece, of index 0
front : one_piece (line (codes "a")) ≡ piece 0 (line (codes "a")) ∷ []
front = refl

-- an input without a byte is no piece
no_front : one_piece [] ≡ []
no_front = refl

-- the pieces behind the front have the indexes from 1 on
behind : indexed_pieces_from 1 rest pieces ≡ piece 1 (line (codes "b")) ∷ piece 2 (line (codes "c")) ∷ []
behind = refl

-- with no front they have those from 0 on
alone : indexed_pieces_from 0 rest pieces ≡ indexed_pieces rest pieces
alone = refl

second : piece_from 1 rest pieces 1 ≡ piece 2 (line (codes "c"))
second = refl

-- past the last piece there is an empty one
past : piece_from 1 rest pieces 2 ≡ piece 3 []
past = refl

-- no index is above the greatest number of 32 bits
greatest : piece_from 4294967295 rest pieces 1 ≡ piece 4294967295 (line (codes "c"))
greatest = refl

-- ---- what is noted of pieces

abbrev noted : ℕ → ℕ → List (ℕ × LineFault) → Noted
noted index lines refused = record { index = index; lines = lines; refused = refused }

-- notes stand by their indexes, and those of one index by what else they say
ordered : sorted_by note_order (noted 2 1 [] ∷ noted 0 3 ((2, NoJson) ∷ []) ∷ noted 2 0 [] ∷ []) ≡ noted 0 3 ((2, NoJson) ∷ []) ∷ noted 2 0 [] ∷ noted 2 1 [] ∷ []
ordered = refl

-- a refused line has its number among the lines of all pieces before it and of its own
numbered : refused_lines_from 0 (noted 0 3 ((2, NoJson) ∷ []) ∷ noted 1 2 ((1, NoObject) ∷ []) ∷ []) ≡ (2, NoJson) ∷ (4, NoObject) ∷ []
numbered = refl

-- of no line there is no note
no_note : notes_of_one 0 [] ≡ []
no_note = refl

-- a front and a rest of no line are one piece all the same
of_nothing : (plan : PlannedQuery) → (concatenation (none plan) (none plan)).notes ≡ note_of_one 0 [] ∷ []
of_nothing plan = refl
