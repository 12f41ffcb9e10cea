-- What contracts see of an input that is read in rounds.
use Rattle.std.specs.Prelude.{◌≡◌, ◌⊎◌, ◌↔◌, ℕ, ◌+◌, ◌^◌, ◌<◌, ◌≤◌, Bool, true, false, List, length, Option, Result, Ok, IsErr, IsOk, option_map, []}
use Rattle.std.specs.Io.KnownBytes.{Consumes, IsAtEnd, Keeps}
use Rattle.lines.specs.declared.fault.ReadFault.{ReadFault}
use Rattle.lines.specs.Clip.{clip_lines}
use Rattle.lines.specs.Pieces.{EndsInFeed}

-- The reader; what is left to give, where the reader's bytes are known; the round that the last
-- call gave, and no byte before the first call, where the last one gave none, and once the round
-- was handed out; the greatest length of a round; how many bytes were given in all; whether the
-- last round was given; whether reading has failed; the bytes that the reader still has, where they
-- are known; how many bytes it gave in all; and whether a read of it answered an error
pub record RoundsState (R : Type 0) : Type 0 where
  pub reader : R
  pub left : Option (List ℕ)
  pub round : List ℕ
  pub size : ℕ
  pub given : ℕ
  pub over : Bool
  pub failed : Bool
  pub unread : Option (List ℕ)
  pub taken : ℕ
  pub erred : Bool

-- Before the first round, of a reader that has these bytes: they are left to give, clipped.
abbrev pub rounds_at_start : {R : Type 0} → R → Option (List ℕ) → ℕ → RoundsState R
rounds_at_start reader bytes size = record {
  reader = reader;
  left = option_map clip_lines bytes;
  round = [];
  size = size;
  given = 0;
  over = false;
  failed = false;
  unread = bytes;
  taken = 0;
  erred = false;
}

-- a round that was handed out, and the greatest length of a round in its buffer
pub record RoundState : Type 0 where
  pub bytes : List ℕ
  pub size : ℕ

-- a round was given: it and what is left behind it are what was left before, and it ends in a line
-- feed unless it is the last, behind which nothing is left
pub record HasGiven {R : Type 0} (old new : RoundsState R) : Type 0 where
  pub left : Consumes old.left new.left new.round
  pub some : 0 < length new.round
  pub fits : length new.round ≤ new.size
  pub feed : EndsInFeed new.round ⊎ (new.over ≡ true)
  pub last : new.over ≡ true → IsAtEnd new.left
  pub given : new.given ≡ old.given + length new.round

-- Nothing was left, and that stays so; there is no round.
pub record HasNothing {R : Type 0} (old new : RoundsState R) : Type 0 where
  pub left : IsAtEnd old.left
  pub same : Keeps old.left new.left
  pub round : new.round ≡ []
  pub given : new.given ≡ old.given
  pub over : new.over ≡ old.over

-- What was read of a reader: where its bytes are known, those that it has no more; and they are
-- counted
pub record HasRead (old new : Option (List ℕ)) (taken counted : ℕ) : Type 0 where
  pub bytes : List ℕ
  pub lost : Consumes old new bytes
  pub count : counted ≡ taken + length bytes

-- Why reading fails: a read answered an error, or the reader gave 2^63 bytes.
abbrev pub HasCause : (erred : Bool) (taken : ℕ) → Type 0
HasCause erred taken = (erred ≡ true) ⊎ (2 ^ 63 ≤ taken)

-- What a call does that may give a round. It answers a fault wherever a read is recorded to have
-- answered an error, and only there or where 2^63 bytes were read.
pub record HasMoved {R : Type 0} (old : RoundsState R) (found : Result Bool ReadFault) (new : RoundsState R) : Type 0 where
  pub round : found ≡ Ok true → HasGiven old new
  pub none : found ≡ Ok false → HasNothing old new
  pub fault : IsErr found ↔ (new.failed ≡ true)
  pub cause : IsErr found → HasCause new.erred new.taken
  pub told : IsOk found → new.erred ≡ false
  pub lost : IsErr found → new.round ≡ []
  pub read : HasRead old.unread new.unread old.taken new.taken
  pub failed : old.failed ≡ true → IsErr found
  pub over : old.over ≡ true → old.failed ≡ false → found ≡ Ok false
  pub size : new.size ≡ old.size
  pub limit : new.given < 2 ^ 63
