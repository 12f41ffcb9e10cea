-- What is kept of the groups of a list of records: the partial aggregates from which the values of
-- the set functions come (ISO/IEC 9075-2, <group by clause>, <aggregate function>).
use Rattle.std.specs.Prelude.{ℕ, ℤ, Bool, List, filter, length, map, Option, Some, None}
use Rattle.semantics.specs.Aggregates.{AggregateFunction, column_numbers, column_values, maximum, minimum, same_value, total}
use Rattle.semantics.specs.Groups.{Key, Record, key_order, keys, members}
use Rattle.semantics.specs.Lists.{distinct}
use Rattle.semantics.specs.Lists.{sorted_by}
use Rattle.semantics.specs.Values.{Datum, value_order}
use Rattle.semantics.specs.declared.function.ColumnFunction.{ColumnFunction}
use Rattle.semantics.specs.declared.function.ColumnFunction.TheVariants as function

-- The state of a set function over the members of a group: nothing if it is their number, a
-- count, a sum and how many numbers were added, the least or the greatest value, or the different
-- values.
pub data FunctionState : Type 0 where
  rows : FunctionState
  counted : ℕ → FunctionState
  summed : ℤ → ℕ → FunctionState
  extreme : Datum → FunctionState
  collected : List Datum → FunctionState

-- A group: its key, how many members it has, and the state of each set function over them.
pub record EntryForm : Type 0 where
  pub key : Key
  pub members : ℕ
  pub states : List FunctionState

-- The values of a list without repeats, ascending.
abbrev pub different_values : List Datum → List Datum
different_values values = sorted_by value_order (distinct same_value values)

-- What is kept for a set function of the records that it takes: of COUNT how many they are, or how
-- many of their values are not NULL; of SUM and AVG the sum, without bound, and how many numbers
-- were added; of MIN and MAX the value; of COUNT DISTINCT the different values, ascending, without
-- NULL.
abbrev pub state_over : ColumnFunction → List Record → FunctionState
state_over function.CountRows records = counted (length records)
state_over (function.Count place) records = counted (length (column_values place records))
state_over (function.CountDistinct place) records =
    collected (different_values (column_values place records))
state_over (function.Sum place) records =
    summed (total (column_numbers place records)) (length (column_numbers place records))
state_over (function.Min place) records = extreme (minimum (column_values place records))
state_over (function.Max place) records = extreme (maximum (column_values place records))
state_over (function.Avg place) records =
    summed (total (column_numbers place records)) (length (column_numbers place records))

-- What is kept for a set function with or without a FILTER: with one, over the records that it
-- keeps. Of COUNT(*) without one nothing is kept, since it is the number of members, which the
-- group has.
abbrev pub state_by : Option (Record → Bool) → ColumnFunction → List Record → FunctionState
state_by None function.CountRows records = rows
state_by None f records = state_over f records
state_by (Some keeps) f records = state_over f (filter keeps records)

-- What is kept for a set function of the members of a group.
abbrev pub function_state : AggregateFunction → List Record → FunctionState
function_state f records = state_by f.filter f.function records

-- What is kept of the group of a key under a grouping set, over a list of records.
abbrev pub entry_over : List ℕ → List AggregateFunction → List Record → Key → EntryForm
entry_over set functions records key =
    let group = members set key records in
    record {
      key = key;
      members = length group;
      states = map (λ f. function_state f group) functions;
    }

-- What is kept of all groups of a list of records under a grouping set, by ascending keys.
abbrev pub entries_over : List ℕ → List AggregateFunction → List Record → List EntryForm
entries_over set functions records =
    map (entry_over set functions records) (sorted_by key_order (keys set records))
