-- The codes of values: bytes that stand to each other as the values do.
use Rattle.std.specs.Prelude.{ℕ, suc, ℤ, pos, negsuc, ⊤, ◌+◌, ◌-◌, ◌^◌, ◌<◌, nat_lt, true, false, List, ◌∷◌, ◌++◌, map, if◌then◌else◌, []}
use Rattle.std.specs.Int.{bytes_high_first}
use Rattle.std.specs.List.{AllByRecursion, flat_map}
use Rattle.semantics.specs.Syntax.{SortKey}
use Rattle.semantics.specs.Values.{Datum, boolean, whole, text, null, is_null}

-- A whole number of 64 bits is a 4 and then, in 8 bytes, how far it is above the least of them. A
-- number below these is a 3 and then, in 16 bytes, how far it is above the least number of 128
-- bits. A number above them is a 5 and then itself in 16 bytes. The highest byte is first.
abbrev pub number_code : ℤ → List ℕ
number_code (pos n) = if nat_lt n (2 ^ 63) then 4 ∷ bytes_high_first 8 (2 ^ 63 + n) else 5 ∷ bytes_high_first 16 n
number_code (negsuc n) = if nat_lt n (2 ^ 63) then 4 ∷ bytes_high_first 8 (2 ^ 63 - 1 - n) else 3 ∷ bytes_high_first 16 (2 ^ 127 - 1 - n)

-- False is a 1 and True is a 2. A text is a 6 and its bytes, each greater by one, with a 0 behind
-- them. NULL is a 255.
abbrev pub value_code : Datum → List ℕ
value_code (boolean false) = 1 ∷ []
value_code (boolean true) = 2 ∷ []
value_code (whole n) = number_code n
value_code (text s) = 6 ∷ map suc s ++ 0 ∷ []
value_code null = 255 ∷ []

-- Each byte as far from 255 as it was from 0.
abbrev pub complement : List ℕ → List ℕ
complement code = map (λ b. 255 - b) code

-- Under a key of ORDER BY the code of a value that is not NULL is its own, and under DESC the
-- complement of it. NULL is a 0 where it is first, and else a 255.
abbrev pub key_code : SortKey → Datum → List ℕ
key_code k d =
    if is_null d then (if k.nulls_first then 0 ∷ [] else 255 ∷ [])
    else if k.descending then complement (value_code d)
    else value_code d

-- An index below 255 is one byte. Another one is a 255 and then 8 bytes.
abbrev pub index_code : ℕ → List ℕ
index_code i = if nat_lt i 255 then i ∷ [] else 255 ∷ bytes_high_first 8 i

-- The codes of values, one after the other.
abbrev pub values_code : List Datum → List ℕ
values_code values = flat_map value_code values

-- Values that have a code of their own: the numbers of 128 bits, and the texts whose bytes are
-- below 255, as those of UTF-8 are.
abbrev pub IsCodable : Datum → Type 0
IsCodable (boolean b) = ⊤
IsCodable (whole (pos n)) = n < 2 ^ 127
IsCodable (whole (negsuc n)) = n < 2 ^ 127
IsCodable (text s) = AllByRecursion (λ b. b < 255) s
IsCodable null = ⊤
