-- Values, their order, and how two of them compare (ISO/IEC 9075-2, <comparison predicate>).
use Rattle.std.specs.Cmp.Lexicographic.{slice_cmp}
use Rattle.std.specs.Ordering.{nat_cmp, int_cmp, bool_cmp, is_eq, is_ge, is_gt, is_le, is_lt, is_ne}
use Rattle.std.specs.Prelude.{ℕ, ℤ, Bool, true, false, List, if◌then◌else◌}
use Rattle.std.specs.declared.cmp.Ordering.{Ordering}
use Rattle.semantics.specs.declared.comparison.Op.{Op}
use Rattle.semantics.specs.declared.truth.Truth.{Truth}
use Rattle.semantics.specs.declared.truth.Truth.TheVariants.{True, Unknown, False}
use Rattle.semantics.specs.declared.comparison.Op.TheVariants as op

-- A known truth value, a whole number, a text as its UTF-8 bytes, or the null value.
pub data Datum : Type 0 where
  boolean : Bool → Datum
  whole : ℤ → Datum
  text : List ℕ → Datum
  null : Datum

-- Whether a value is the null value.
abbrev pub is_null : Datum → Bool
is_null null = true
is_null d = false

-- Truth values come first, then whole numbers, then texts, then NULL.
abbrev pub rank : Datum → ℕ
rank (boolean b) = 0
rank (whole n) = 1
rank (text s) = 2
rank null = 3

-- Within a type: False before True, whole numbers as numbers, texts byte by byte; else by the type.
abbrev pub value_order : Datum → Datum → Ordering
value_order (boolean a) (boolean b) = bool_cmp a b
value_order (whole a) (whole b) = int_cmp a b
value_order (text a) (text b) = slice_cmp nat_cmp a b
value_order a b = nat_cmp (rank a) (rank b)

-- Whether an operator holds of two operands, of which the left one is Less than, Equal to or
-- Greater than the right one.
abbrev pub accepts : Op → Ordering → Bool
accepts op.Eq order = is_eq order
accepts op.Ne order = is_ne order
accepts op.Lt order = is_lt order
accepts op.Le order = is_le order
accepts op.Gt order = is_gt order
accepts op.Ge order = is_ge order

-- A comparison is Unknown if an operand is NULL. Otherwise the order of the operands decides
-- whether it is True or False.
abbrev pub comparison : Op → Datum → Datum → Truth
comparison o null b = Unknown
comparison o a null = Unknown
comparison o a b = if accepts o (value_order a b) then True else False
