-- Single bytes of a JSON text, in ASCII.
use Rattle.std.specs.Prelude.{ℕ, List, get_or}

-- a space, before which the control characters stand
abbrev pub space : ℕ
space = 32

-- The byte that begins and ends a string.
abbrev pub quotation_mark : ℕ
quotation_mark = 34

-- The byte at a place, and a space past the end.
abbrev pub byte_or_space : List ℕ → ℕ → ℕ
byte_or_space text at = get_or text at space
