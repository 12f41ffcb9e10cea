-- Which values can be compared (ISO/IEC 9075-2, <comparison predicate>).
use Rattle.std.specs.Prelude.{⊤}
use Rattle.semantics.specs.Values.{Datum, boolean, whole, text, null}

-- Two values can be compared where they are of one type, or one of them is NULL.
abbrev pub AreComparable : Datum → Datum → Type 0
AreComparable null b = ⊤
AreComparable a null = ⊤
AreComparable (boolean a) (boolean b) = ⊤
AreComparable (whole a) (whole b) = ⊤
AreComparable (text a) (text b) = ⊤
AreComparable a b = ⊥
