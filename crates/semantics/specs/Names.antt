-- What names stand for under a schema (ISO/IEC 9075-2, <column reference>).
use Rattle.std.specs.List.{filter_map, flat_map}
use Rattle.std.specs.Option.{option_map, option_and_then}
use Rattle.std.specs.Prelude.{ℕ, Option, List, ◌++◌, [], position, slice_get, Some, None}
use Rattle.std.specs.Str.{bytes_eq}
use Rattle.semantics.specs.Columns.{Field, names_of}
use Rattle.semantics.specs.Syntax.{GroupingElement, GroupingElements, set, rollup, cube, sets, no_groups, group, SetFunction, Predicate, over_all, over_filtered}
use Rattle.semantics.specs.declared.aggregate.Aggregate.{Aggregate}
use Rattle.semantics.specs.declared.function.ColumnFunction.{ColumnFunction}
use Rattle.semantics.specs.declared.kind.Kind.{Kind}
use Rattle.semantics.specs.declared.aggregate.Aggregate.TheVariants as aggregate
use Rattle.semantics.specs.declared.function.ColumnFunction.TheVariants as at

-- The place of the column of a name, from 0. Names are compared exactly.
abbrev pub place_of : List Field → List ℕ → Option ℕ
place_of fields name = position (bytes_eq name) (names_of fields)

-- The places of the columns of some names.
abbrev pub places_of : List Field → List (List ℕ) → List ℕ
places_of fields names = filter_map (place_of fields) names

-- The type of the column at a place.
abbrev pub kind_at : List Field → ℕ → Option Kind
kind_at fields place = option_map (λ f. f.kind) (slice_get fields place)

-- The type of the column of a name.
abbrev pub column_kind : List Field → List ℕ → Option Kind
column_kind fields name = option_and_then (kind_at fields) (place_of fields name)

abbrev mutual
  -- The names in an element of GROUP BY, from left to right.
  pub group_names : GroupingElement → List (List ℕ)
  group_names (set names) = names
  group_names (rollup units) = flat_map (λ unit. unit) units
  group_names (cube units) = flat_map (λ unit. unit) units
  group_names (sets gs) = groups_names gs

  -- Those in the elements of GROUPING SETS.
  pub groups_names : GroupingElements → List (List ℕ)
  groups_names no_groups = []
  groups_names (group g gs) = group_names g ++ groups_names gs

-- The set function without its FILTER.
abbrev pub aggregate_of : SetFunction → Aggregate
aggregate_of (over_all a) = a
aggregate_of (over_filtered a p) = a

-- The predicate of its FILTER, if it has one.
abbrev pub filter_of : SetFunction → Option Predicate
filter_of (over_all a) = None
filter_of (over_filtered a p) = Some p

-- ---- set functions by places of columns

-- A set function, without its FILTER, with the position of its column in place of the column's
-- name; None if no column has that name.
abbrev pub column_function : List Field → Aggregate → Option ColumnFunction
column_function fields aggregate.CountRows = Some at.CountRows
column_function fields (aggregate.Count x) = option_map at.Count (place_of fields x)
column_function fields (aggregate.CountDistinct x) = option_map at.CountDistinct (place_of fields x)
column_function fields (aggregate.Sum x) = option_map at.Sum (place_of fields x)
column_function fields (aggregate.Min x) = option_map at.Min (place_of fields x)
column_function fields (aggregate.Max x) = option_map at.Max (place_of fields x)
column_function fields (aggregate.Avg x) = option_map at.Avg (place_of fields x)

-- A set function with the place of its column, and the predicate of its FILTER, if it has one.
pub record PlannedFunction : Type 0 where
  pub function : ColumnFunction
  pub filter : Option Predicate

-- A set function, if the schema has its column.
abbrev pub planned_function : List Field → SetFunction → Option PlannedFunction
planned_function fields f =
    option_map (λ g. record { function = g; filter = filter_of f })
    (column_function fields (aggregate_of f))
