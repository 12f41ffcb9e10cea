-- Lengths of what is in memory.
use Rattle.std.specs.Prelude.{◌^◌, ℕ}

-- No text in memory has as many bytes.
abbrev pub memory_limit : ℕ
memory_limit = 2 ^ 63
