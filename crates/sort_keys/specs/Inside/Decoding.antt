-- The values that codes are of.
use Rattle.std.specs.Prelude.{◌≡◌, ◌<◌, ◌^◌, ◌+ℤ◌, ◌-ℤ◌, ℕ, suc, ℤ, pos, List, ◌∷◌, ◌++◌, length, map}
use Rattle.std.specs.Int.{bytes_high_first}
use Rattle.std.specs.Str.{IsUtf8}
use Rattle.semantics.specs.Values.{Datum, whole, text}
use Rattle.sort_keys.specs.Codes.{value_code}
use Rattle.sort_keys.specs.Decoding.{IsStorable}

-- Where bytes begin with the code of a value, they do with that of this one, and the rest stands
-- behind it.
abbrev pub IsSplit : List ℕ → Datum → List ℕ → Type 0
IsSplit code value rest = (d : Datum) (s : List ℕ) → IsStorable d → code ≡ value_code d ++ s → (value ≡ d) × (rest ≡ s)

-- Where bytes begin with the code of a value, it has so many bytes.
abbrev pub IsCodeLength : List ℕ → ℕ → Type 0
IsCodeLength code len = (d : Datum) (s : List ℕ) → IsStorable d → code ≡ value_code d ++ s → len ≡ length (value_code d)

-- ---- behind the first byte

-- Where bytes begin with the 8 bytes of a number, the value is as far from the least number of 64
-- bits, and the rest stands behind them.
abbrev pub IsNumberSplit : List ℕ → Datum → List ℕ → Type 0
IsNumberSplit code value rest = (n : ℕ) (s : List ℕ) → n < 2 ^ 64 → code ≡ bytes_high_first 8 n ++ s → (value ≡ whole (pos n -ℤ pos (2 ^ 63))) × (rest ≡ s)

-- Where bytes begin with the 16 bytes of a number, the value is as far above the least one, and the
-- rest stands behind them.
abbrev pub IsWideSplit : ℤ → List ℕ → Datum → List ℕ → Type 0
IsWideSplit least code value rest = (n : ℕ) (s : List ℕ) → n < 2 ^ 127 → code ≡ bytes_high_first 16 n ++ s → (value ≡ whole (least +ℤ pos n)) × (rest ≡ s)

-- Where bytes begin with those of a text, each greater by one, and a 0, the value is the text, and
-- the rest stands behind them.
abbrev pub IsTextSplit : List ℕ → Datum → List ℕ → Type 0
IsTextSplit code value rest = (t s : List ℕ) → ∥ IsUtf8 t ∥₁ → code ≡ map suc t ++ 0 ∷ s → (value ≡ text t) × (rest ≡ s)
