-- What a row shows for each item, and the rows for which HAVING is True (ISO/IEC 9075-2, <select
-- list>, <having clause>). For a set function a row shows its value over the members of the row's
-- group (`shown_law` of query_resolve).
use Rattle.std.specs.List.{list_any}
use Rattle.std.specs.Option.{option_map_or, option_and_then}
use Rattle.std.specs.Prelude.{ℕ, ◌+◌, ◌*◌, ◌==◌, nat_lt, pos, Bool, false, not, List, [], ◌∷◌, length, map, reverse, position, slice_get, slice_index_or, unwrap_or, if◌then◌else◌, filter}
use Rattle.semantics.specs.Aggregates.{CellValue, plain, ratio}
use Rattle.semantics.specs.Columns.{Field}
use Rattle.semantics.specs.Conditions.{Valuation, same_truth, truth}
use Rattle.semantics.specs.ResultRows.{ResultRow, set_of}
use Rattle.semantics.specs.Groups.{Key}
use Rattle.semantics.specs.Names.{place_of}
use Rattle.semantics.specs.SetFunctions.{place_among}
use Rattle.semantics.specs.Syntax.{Expression, Query, name, grouping, function}
use Rattle.semantics.specs.Values.{Datum, whole, null}
use Rattle.semantics.specs.declared.truth.Truth.TheVariants.{True}

-- The value that a row of a grouping set shows for a column: the column's part of the key, and NULL
-- if the column is not in the set.
abbrev pub value_in : List ℕ → Key → ℕ → Datum
value_in set key place =
    option_map_or (λ at. slice_index_or key at null) (position (λ column. column == place) set) null

-- What follows is NULL for a name that is no column, and for a set function that the query does
-- not have. A query without faults has neither.

-- What a row of a grouping set shows for the column of a name.
abbrev pub grouping_column_value : List Field → List ℕ → Key → List ℕ → Datum
grouping_column_value fields set key n = option_map_or (value_in set key) (place_of fields n) null

-- ---- GROUPING

-- Whether the column of a name is not in the grouping set.
abbrev pub is_rolled_up : List Field → List ℕ → List ℕ → Bool
is_rolled_up fields set n =
    not (option_map_or (λ place. list_any (λ column. column == place) set)
    (place_of fields n) false)

-- The number that these binary digits write, the lowest digit first.
abbrev pub binary_value : List Bool → ℕ
binary_value [] = 0
binary_value (digit ∷ higher) = (if digit then 1 else 0) + 2 * binary_value higher

-- The number whose binary digits are 0 if the column is in the grouping set and 1 if it is
-- not, the last column's digit lowest.
abbrev pub grouping_number : List Field → List ℕ → List (List ℕ) → ℕ
grouping_number fields set names = binary_value (reverse (map (is_rolled_up fields set) names))

-- The value of GROUPING. The grammar allows at most 8 columns, so no query has the case of more,
-- which is NULL here.
abbrev pub value_of_grouping : List Field → List ℕ → List (List ℕ) → Datum
value_of_grouping fields set names =
    if nat_lt 8 (length names) then null else whole (pos (grouping_number fields set names))

-- ---- rows

-- What a row of a grouping set, with this key and these cells, shows for an expression; for a set
-- function it is the cell at the place of the function, by its FILTER too, among those of the
-- query.
abbrev pub expression_value : List Field → Query → List ℕ → Key → List CellValue → Expression
    → CellValue
expression_value fields t set key cells (name n) = plain (grouping_column_value fields set key n)
expression_value fields t set key cells (grouping names) =
    plain (value_of_grouping fields set names)
expression_value fields t set key cells (function f) =
    unwrap_or (option_and_then (slice_get cells) (place_among fields t f)) (plain null)

-- What a row shows, item by item.
abbrev pub row_values : List Field → Query → ResultRow → List CellValue
row_values fields t row =
    map (λ item.
    expression_value fields t (set_of fields t row) row.1.key row.1.cells item.expression)
    t.items

-- The value of a cell as an operand; an average is no single value, and no AVG may stand in HAVING
-- or in ORDER BY.
abbrev pub cell_value : CellValue → Datum
cell_value (plain d) = d
cell_value (ratio sum count) = null

-- In HAVING and in ORDER BY an expression has the value that the row shows for it.
abbrev pub value_in_row : List Field → Query → ResultRow → Valuation
value_in_row fields t row e =
    cell_value (expression_value fields t (set_of fields t row) row.1.key row.1.cells e)

-- Whether the predicate of HAVING is True for a row, and neither False nor Unknown; without
-- HAVING every row passes.
abbrev pub is_having_true : List Field → Query → ResultRow → Bool
is_having_true fields t row =
    same_truth (option_map_or (truth (value_in_row fields t row)) t.having_condition True) True

-- The rows for which it is True.
abbrev pub rows_having_true : List Field → Query → List ResultRow → List ResultRow
rows_having_true fields t found = filter (is_having_true fields t) found
