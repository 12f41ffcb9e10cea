-- Codes of values and keys, by which tables of them are values of contracts too.
use Rattle.std.specs.Prelude.{◌≡◌, Bool, true, false, cond, ℕ, ℤ, pos, zero, suc, List, refl, []}
use Rattle.std.specs.Coded.{Coded, code_by, coded×, coded_ℕ, coded_ℤ, coded_list}
use Rattle.semantics.specs.Values.{Datum, boolean, whole, text, null}

abbrev pub Parts : Type 0
Parts = ℕ × (ℤ × List ℕ)

-- The parts of a value: its type, its number and its bytes.
abbrev pub parts : Datum → Parts
parts (boolean b) = (0, (pos (cond b 1 0), []))
parts (whole n) = (1, (n, []))
parts (text s) = (2, (pos 0, s))
parts null = (3, (pos 0, []))

abbrev is_one : ℤ → Bool
is_one (pos (suc zero)) = true
is_one _ = false

abbrev pub datum_of_parts : Parts → Datum
datum_of_parts (zero, (n, s)) = boolean (is_one n)
datum_of_parts (suc zero, (n, s)) = whole n
datum_of_parts (suc (suc zero), (n, s)) = text s
datum_of_parts (suc (suc (suc _)), (n, s)) = null

pub datum_of_parts-parts : (d : Datum) → datum_of_parts (parts d) ≡ d
datum_of_parts-parts (boolean true) = refl
datum_of_parts-parts (boolean false) = refl
datum_of_parts-parts (whole n) = refl
datum_of_parts-parts (text s) = refl
datum_of_parts-parts null = refl

abbrev pub coded_datum : Coded Datum
coded_datum = code_by Parts (coded× coded_ℕ (coded× coded_ℤ (coded_list coded_ℕ))) parts datum_of_parts datum_of_parts-parts

abbrev pub coded_key : Coded (List Datum)
coded_key = coded_list coded_datum
