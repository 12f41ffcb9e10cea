-- The value of a set function over a list of records (ISO/IEC 9075-2, <aggregate function>, <filter
-- clause>).
use Rattle.std.specs.List.{find, list_all}
use Rattle.std.specs.Option.{option_map_or}
use Rattle.std.specs.Ordering.{eq_by_cmp, is_lt, is_gt}
use Rattle.std.specs.Prelude.{ℕ, ℤ, Bool, not, List, map, filter, filter_map, Option, Some, None, pos, ◌+ℤ◌, [], ◌∷◌, length, unwrap_or}
use Rattle.semantics.specs.Groups.{Record, value_at}
use Rattle.semantics.specs.Lists.{distinct}
use Rattle.semantics.specs.Values.{Datum, whole, is_null, null, value_order}
use Rattle.semantics.specs.declared.function.ColumnFunction.{ColumnFunction}
use Rattle.semantics.specs.declared.function.ColumnFunction.TheVariants as function

-- A value other than NULL.
abbrev pub is_non_null : Datum → Bool
is_non_null d = not (is_null d)

-- The values of a list that are not NULL.
abbrev pub non_null : List Datum → List Datum
non_null values = filter is_non_null values

-- The values in a column, over a list of records, that are not NULL.
abbrev pub column_values : ℕ → List Record → List Datum
column_values place rows = non_null (map (value_at place) rows)

-- The whole number that a value is, if it is one.
abbrev pub number_of : Datum → Option ℤ
number_of (whole n) = Some n
number_of d = None

-- The whole numbers of a list of values.
abbrev pub numbers : List Datum → List ℤ
numbers values = filter_map number_of values

-- The whole numbers in a column, over a list of records.
abbrev pub column_numbers : ℕ → List Record → List ℤ
column_numbers place rows = numbers (map (value_at place) rows)

-- A value, or for an average a sum and how many numbers were added.
pub data CellValue : Type 0 where
  plain : Datum → CellValue
  ratio : ℤ → ℕ → CellValue

-- Two values are not distinct if neither is before the other in the order of all values; so NULL
-- is not distinct from NULL.
abbrev pub same_value : Datum → Datum → Bool
same_value x y = eq_by_cmp value_order x y

-- Whole numbers added up, without bound.
abbrev pub total : List ℤ → ℤ
total [] = pos 0
total (n ∷ ns) = n +ℤ total ns

-- The sum of whole numbers; NULL if there are none.
abbrev pub sum_of : List ℤ → Datum
sum_of [] = null
sum_of (n ∷ ns) = whole (total (n ∷ ns))

-- The average of whole numbers, as the pair of their sum and their count; NULL if there are none.
abbrev pub average_of : List ℤ → CellValue
average_of [] = plain null
average_of (n ∷ ns) = ratio (total (n ∷ ns)) (length (n ∷ ns))

-- A value of the list that no other is below; NULL if the list is empty.
abbrev pub minimum : List Datum → Datum
minimum xs = unwrap_or (find (λ x. list_all (λ y. not (is_lt (value_order y x))) xs) xs) null

-- A value of the list that no other is above; NULL if the list is empty.
abbrev pub maximum : List Datum → Datum
maximum xs = unwrap_or (find (λ x. list_all (λ y. not (is_gt (value_order y x))) xs) xs) null

-- The value of a set function over the records that it takes.
abbrev pub value_over : ColumnFunction → List Record → CellValue
value_over function.CountRows rows = plain (whole (pos (length rows)))
value_over (function.Count place) rows = plain (whole (pos (length (column_values place rows))))
value_over (function.CountDistinct place) rows =
    plain (whole (pos (length (distinct same_value (column_values place rows)))))
value_over (function.Sum place) rows = plain (sum_of (column_numbers place rows))
value_over (function.Min place) rows = plain (minimum (column_values place rows))
value_over (function.Max place) rows = plain (maximum (column_values place rows))
value_over (function.Avg place) rows = average_of (column_numbers place rows)

-- A set function, and which records its FILTER keeps, if it has one.
pub record AggregateFunction : Type 0 where
  pub function : ColumnFunction
  pub filter : Option (Record → Bool)

-- The records that a FILTER keeps, and all if there is none.
abbrev pub filtered_rows : Option (Record → Bool) → List Record → List Record
filtered_rows test rows = option_map_or (λ keeps. filter keeps rows) test rows

-- The value of a set function over a list of records: over those that its FILTER keeps.
abbrev pub agg : AggregateFunction → List Record → CellValue
agg f rows = value_over f.function (filtered_rows f.filter rows)
