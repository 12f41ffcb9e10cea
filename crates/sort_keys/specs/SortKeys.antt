-- What a sort has at hand of a code.
use Rattle.std.specs.Prelude.{ℕ, zero, suc, ◌+◌, ◌*◌, List, ◌∷◌, drop, []}
use Rattle.std.specs.declared.cmp.Ordering.{Ordering}
use Rattle.std.specs.Ordering.{nat_cmp, ordering_then}
use Rattle.std.specs.Cmp.Lexicographic.{slice_cmp}
use Rattle.sort_keys.specs.declared.sort_key.SortKey.{SortKey}

-- A number with so many digits to the base 256 behind its own: the first bytes of a list, and zeros
-- behind a list that is shorter.
unfoldable pub with_digits : ℕ → ℕ → List ℕ → ℕ
with_digits number zero s = number
with_digits number (suc n) [] = with_digits (256 * number) n []
with_digits number (suc n) (b ∷ s) = with_digits (256 * number + b) n s

-- The first 16 bytes as one number.
abbrev pub digits_of : List ℕ → ℕ
digits_of s = with_digits 0 16 s

-- A code in three parts: its first 16 bytes as a number, the next 16 as another one, and the rest.
abbrev pub SortParts : Type 0
SortParts = ℕ × ℕ × List ℕ

-- The parts of a code.
abbrev pub parts_of : List ℕ → SortParts
parts_of code = (digits_of code, digits_of (drop 16 code), drop 32 code)

-- How two codes in parts stand to each other: as the first numbers, then as the second ones, and
-- then as the rests, byte by byte.
abbrev pub parts_order : SortParts → SortParts → Ordering
parts_order a b = ordering_then (nat_cmp a.0 b.0) (ordering_then (nat_cmp a.1 b.1) (slice_cmp nat_cmp a.2 b.2))

-- The parts that a sort key has.
abbrev pub key_parts : SortKey → SortParts
key_parts key = (key.first, key.second, key.rest.items)
