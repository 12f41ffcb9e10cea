-- The values that codes are of.
use Rattle.std.specs.Prelude.{◌≡◌, ℕ, ⊤, List, ◌++◌}
use Rattle.std.specs.List.{AllByRecursion}
use Rattle.std.specs.Str.{IsUtf8}
use Rattle.semantics.specs.Values.{Datum, boolean, whole, text, null}
use Rattle.sort_keys.specs.Codes.{IsCodable, value_code, values_code}

-- Values that a program can have: the numbers of 128 bits, and the texts in UTF-8.
abbrev pub IsStorable : Datum → Type 0
IsStorable (boolean b) = ⊤
IsStorable (whole n) = IsCodable (whole n)
IsStorable (text s) = ∥ IsUtf8 s ∥₁
IsStorable null = ⊤

-- Where bytes begin with the code of a value, the front is this code, and the rest is what stands
-- behind it.
abbrev pub IsCodeSplit : List ℕ → List ℕ → List ℕ → Type 0
IsCodeSplit code front rest = (d : Datum) (s : List ℕ) → IsStorable d → code ≡ value_code d ++ s → (front ≡ value_code d) × (rest ≡ s)

-- Where bytes are the codes of values, one after the other, these are the values.
abbrev pub AreDecoded : List ℕ → List Datum → Type 0
AreDecoded code values = (key : List Datum) → AllByRecursion IsStorable key → code ≡ values_code key → values ≡ key

-- Bytes are the codes of the values of a key, one after the other.
abbrev pub IsCodeOf : List ℕ → List Datum → Type 0
IsCodeOf code key = AllByRecursion IsStorable key × (code ≡ values_code key)

-- A key that bytes are the code of. There is one at most.
abbrev pub KeyOf : List ℕ → Type 0
KeyOf code = (key : List Datum) × IsCodeOf code key
