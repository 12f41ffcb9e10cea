-- How far a reader of parts has come.
use Rattle.std.specs.Io.KnownBytes.{IsAtEnd, prepend_known}
use Rattle.std.specs.Prelude.{◌≡◌, ◌⊎◌, ◌+◌, ◌-◌, ◌^◌, ◌<◌, ◌≤◌, ℕ, true, false, List, ◌∷◌, ◌++◌, drop, length, Option, Some, None, IsSome, IfSome, Result, Ok, Err, unwrap_or, []}
use Rattle.lines.specs.Pieces.{AreWholeLines}
use Rattle.lines.specs.Rounds.{RoundsState}
use Rattle.part_lines.specs.Reading.{Stream, reading_of}
use Rattle.part_lines.specs.declared.fault.PartRefusal.{PartRefusal}
use Rattle.part_lines.specs.declared.fault.PartRefusal.TheVariants as refusal
use Rattle.part_lines.specs.LineValues.{Tells}
use Rattle.values.specs.declared.value.Value.{Value}
use Rattle.semantics.specs.Lines.{lines}
use Rattle.semantics.specs.declared.parts_fault.PartsFaultKind.TheVariants.{NotAValue}
use Rattle.std.specs.declared.alloc.AllocError.{AllocError}

-- The bytes that are to come, where they are known, and how many lines were read.
pub record ReaderState : Type 0 where
  pub left : Option (List ℕ)
  pub line : ℕ

-- The bytes of its lines that are to come are known.
abbrev pub IsKnown : ReaderState → Type 0
IsKnown reader = IsSome reader.left

-- The lines that are to come, and how many were read.
abbrev pub stream_of : ReaderState → Stream
stream_of reader = record { left = lines (unwrap_or reader.left []); place = reader.line }

-- ---- in a round

-- The bytes that are to come behind a place of a round.
abbrev pub left_at : {R : Type 0} → RoundsState R → ℕ → Option (List ℕ)
left_at rounds place = prepend_known (drop place rounds.round) rounds.left

-- So many lines were read, up to a place of a round, at which a line begins or the round ends: the
-- bytes behind it are whole lines, or nothing is left behind the round. They are fewer than the
-- bytes that were given; once reading has failed there is no round.
pub record IsAtLine {R : Type 0} (rounds : RoundsState R) (place line : ℕ) : Type 0 where
  pub within : place ≤ length rounds.round
  pub ends : AreWholeLines (drop place rounds.round) ⊎ IsAtEnd rounds.left
  pub lost : rounds.failed ≡ true → rounds.round ≡ []
  pub count : rounds.failed ≡ false → line + (length rounds.round - place) ≤ rounds.given
  pub few : line < 2 ^ 63
  pub limit : rounds.given < 2 ^ 63

-- There is a byte behind the place.
abbrev pub HasLine : {R : Type 0} → RoundsState R → ℕ → Type 0
HasLine rounds place = place < length rounds.round

-- A line stands at a place of a round, up to `end`; behind its line feed, or at the end of the
-- round, the next one begins. So it is whatever follows a round of whole lines, and where nothing
-- follows the round.
pub record IsLineAt (round : List ℕ) (place end : ℕ) (line : List ℕ) : Type 0 where
  pub later : place ≤ end
  pub within : end ≤ length round
  pub is_first : (rest : List ℕ) → AreWholeLines (drop place round) ⊎ (rest ≡ []) → lines (drop place round ++ rest) ≡ line ∷ lines (drop (end + 1) round ++ rest)

-- The line at a place of a round was read, and the lines behind it begin at another place, where it
-- is known what is to come; a call told of it which value it has, or that it has none.
pub record HasTaken {R : Type 0} (rounds : RoundsState R) (place : ℕ) (result : Result (Option Value) AllocError) (next : ℕ) : Type 0 where
  pub line : List ℕ
  pub stands : IfSome (left_at rounds place) (λ bytes. IfSome (left_at rounds next) (λ rest. lines bytes ≡ line ∷ lines rest))
  pub tells : Tells result (reading_of line)

-- The value of the line of this number, or the fault that it has none.
abbrev pub refused_at : ℕ → Result (Option Value) AllocError → Result Value PartRefusal
refused_at line (Ok (Some value)) = Ok value
refused_at line (Ok None) = Err (refusal.Fault (record { line = line; kind = NotAValue }))
refused_at line (Err refused) = Err refusal.OutOfMemory
