-- An input while it is read in rounds: a source, and the buffer that it is read into.
use Rattle.std.specs.Prelude.{◌≡◌, ℕ, ◌+◌, ◌-◌, ◌^◌, ◌<◌, ◌≤◌, Bool, IsTrue, IsFalse, List, length, take, drop, Option, Result, IsErr, IsOk}
use Rattle.std.specs.Io.KnownBytes.{Consumes, IsAtEnd, Keeps}
use Rattle.lines.specs.declared.fault.ReadFault.{ReadFault}
use Rattle.lines.specs.declared.input.Input.{Input}
use Rattle.lines.specs.declared.source.ReaderAccount.{ReaderAccount}
use Rattle.lines.specs.Clip.{clipped_len}
use Rattle.lines.specs.Holding.{IsHeld, left_behind, whole_lines}
use Rattle.lines.specs.Inside.Holding.{left_of}
use Rattle.lines.specs.Rounds.{HasCause, HasRead}

-- ---- a read of the source

-- a read gave `count` bytes, which stand in the buffer from place `at` on and are counted; it gives
-- none only at the end; and in all the reader gave fewer than 2^63
pub record HasGot {R : Type 0} (remaining : R → Option (List ℕ)) (old : ReaderAccount R) (count : ℕ) (new : ReaderAccount R) (buffer : List ℕ) (at : ℕ) : Type 0 where
  pub fits : at + count ≤ length buffer
  pub bytes : Consumes (remaining old.reader) (remaining new.reader) (take count (drop at buffer))
  pub end : count ≡ 0 → IsAtEnd (remaining new.reader)
  pub taken : new.taken ≡ old.taken + count
  pub limit : new.taken < 2 ^ 63

-- ---- a call that reads

-- What it asks: the bytes are held as they should be, and the reader gave fewer than 2^63.
pub record IsReady {R : Type 0} (input : Input R) : Type 0 where
  pub held : IsHeld input.held
  pub limit : input.source.taken < 2 ^ 63

-- What it asks where whole lines of about `aim` bytes are wanted: there are not more of them yet,
-- and a round may have so many
pub record IsReadyFor {R : Type 0} (input : Input R) (aim : ℕ) : Type 0 where
  pub ready : IsReady input
  pub within : input.held.cut ≤ aim
  pub small : aim ≤ input.held.size

-- What stands afterwards, whatever it answers: the greatest length of a round is the same, the
-- bytes that the reader gave are counted, and a fault has a cause; where it answers none, no
-- further error of a read is recorded
pub record HasAccount {R T : Type 0} (remaining : R → Option (List ℕ)) (old : Input R) (answer : Result T ReadFault) (new : Input R) : Type 0 where
  pub size : new.held.size ≡ old.held.size
  pub read : HasRead (remaining old.source.reader) (remaining new.source.reader) old.source.taken new.source.taken
  pub cause : IsErr answer → HasCause new.source.erred new.source.taken
  pub told : IsOk answer → new.source.erred ≡ old.source.erred

-- What stands where it succeeded: it may be called again, the same is left to give, and what was
-- added to the bytes that are held was counted
pub record GoesOn {R : Type 0} (remaining : R → Option (List ℕ)) (old new : Input R) : Type 0 where
  pub ready : IsReady new
  pub left : Keeps (left_of old.held (remaining old.source.reader)) (left_of new.held (remaining new.source.reader))
  pub taken : new.held.filled + old.source.taken ≤ old.held.filled + new.source.taken

-- One read added `count` bytes to those that are held, and they are counted; it adds none only at
-- the end
pub record HasAdded {R : Type 0} (remaining : R → Option (List ℕ)) (old : Input R) (count : ℕ) (new : Input R) : Type 0 where
  pub filled : new.held.filled ≡ old.held.filled + count
  pub taken : new.source.taken ≡ old.source.taken + count
  pub end : count ≡ 0 → IsAtEnd (remaining new.source.reader)

-- The whole lines have at most `aim` bytes, and come near to that unless the reader is at its end;
-- then few bytes follow them, and with these they fit into a round
pub record ComesNear {R : Type 0} (remaining : R → Option (List ℕ)) (aim : ℕ) (ended : Bool) (input : Input R) : Type 0 where
  pub within : input.held.cut ≤ aim
  pub whole : IsFalse ended → aim ≤ input.held.cut + clipped_len
  pub end : IsTrue ended → IsAtEnd (remaining input.source.reader)
  pub few : IsTrue ended → input.held.filled ≤ input.held.cut + clipped_len
  pub fits : IsTrue ended → input.held.filled ≤ input.held.size

-- a block was read: it and what is left behind it are what was left behind the block before; it
-- fits into a round; it is not empty unless it is the last; and the last is all that is held, with
-- the reader at its end
pub record HasBlock {R : Type 0} (remaining : R → Option (List ℕ)) (old : Input R) (ended : Bool) (new : Input R) : Type 0 where
  pub round : Consumes (left_behind old.held (remaining old.source.reader)) (left_behind new.held (remaining new.source.reader)) (whole_lines new.held)
  pub within : new.held.cut ≤ new.held.size
  pub held : IsFalse ended → IsHeld new.held
  pub some : IsFalse ended → 0 < new.held.cut
  pub none : new.held.cut ≡ 0 → IsHeld new.held
  pub all : IsTrue ended → new.held.cut ≡ new.held.filled
  pub end : IsTrue ended → IsAtEnd (remaining new.source.reader)
  pub taken : new.held.filled + old.source.taken ≤ old.held.filled - old.held.cut + new.source.taken
  pub limit : new.source.taken < 2 ^ 63
