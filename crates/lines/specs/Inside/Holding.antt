-- The bytes of an input that are held while it is read in rounds.
use Rattle.std.specs.Prelude.{◌≡◌, ℕ, ◌+◌, ◌-◌, ◌≤◌, false, List, ◌++◌, take, vec_capacity, vec_len, Option, option_map}
use Rattle.lines.specs.declared.line_buffer.LineBuffer.{LineBuffer}
use Rattle.lines.specs.Clip.{clip_lines, clipped_len}
use Rattle.lines.specs.Holding.{whole_lines, open_part, IsHeld}

-- What is left to give where these bytes are still to be read.
abbrev pub left_with : LineBuffer → List ℕ → List ℕ
left_with held rest = whole_lines held ++ clip_lines (open_part held ++ rest)

-- The same where it is known what a reader still gives.
abbrev pub left_of : LineBuffer → Option (List ℕ) → Option (List ℕ)
left_of held remaining = option_map (left_with held) remaining

-- The same is left to give, whatever is still to be read; no more bytes are held, in a buffer of
-- the same length
pub record KeepsLeft (old new : LineBuffer) : Type 0 where
  pub held : IsHeld new
  pub left : (rest : List ℕ) → left_with new rest ≡ left_with old rest
  pub filled : new.filled ≤ old.filled
  pub size : new.size ≡ old.size
  pub len : vec_len new.buffer ≡ vec_len old.buffer
  pub room : vec_capacity new.buffer ≡ vec_capacity old.buffer

-- a window behind the whole lines: so many bytes are held there, and no line that ends among them
-- is too long
pub record IsWindow (held : LineBuffer) (window : ℕ) : Type 0 where
  pub within : held.cut + window ≤ held.filled
  pub short : window ≤ clipped_len
  pub not_full : held.full ≡ false

-- The whole lines may have grown, within the window; nothing else has changed.
pub record GrowsWithin (old : LineBuffer) (window : ℕ) (new : LineBuffer) : Type 0 where
  pub within : new.cut ≤ old.cut + window
  pub buffer : new.buffer ≡ old.buffer
  pub filled : new.filled ≡ old.filled
  pub full : new.full ≡ false

-- The whole lines are let go, and the bytes behind them stand in front.
pub record LetsGoLines (old new : LineBuffer) : Type 0 where
  pub cut : new.cut ≡ 0
  pub filled : new.filled ≡ old.filled - old.cut
  pub behind : open_part new ≡ open_part old
  pub size : new.size ≡ old.size

-- The bytes that were held stay where they are; others may follow them.
pub record KeepsFront (old new : LineBuffer) : Type 0 where
  pub cut : new.cut ≡ old.cut
  pub full : new.full ≡ old.full
  pub size : new.size ≡ old.size
  pub front : take old.filled new.buffer.items ≡ take old.filled old.buffer.items
