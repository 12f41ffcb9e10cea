-- The values that a set function has seen: the set of the different ones, and the first one in an
-- order.
use Rattle.std.specs.Prelude.{List, if◌then◌else◌}
use Rattle.std.specs.declared.cmp.Ordering.{Ordering}
use Rattle.std.specs.declared.cmp.Ordering.TheVariants.{Less, Equal, Greater}
use Rattle.std.specs.FinSet as set
use Rattle.std.specs.Ordering.{is_lt}
use Rattle.semantics.specs.Values.{Datum, null, value_order}

-- a finite set of values
abbrev pub Values : Type 0
Values = set.FinSet value_order

-- The set of the values of a list.
abbrev pub set_of : List Datum → Values
set_of values = set.from_list values

-- The order of all values the other way round, but NULL still the last.
abbrev pub falling_order : Datum → Datum → Ordering
falling_order null null = Equal
falling_order null b = Greater
falling_order a null = Less
falling_order a b = value_order b a

-- Of two values the one that is first in an order; as NULL is the last, it stands for none.
abbrev pub first_by : (Datum → Datum → Ordering) → Datum → Datum → Datum
first_by order a b = if is_lt (order b a) then b else a
