-- The order of the rows (ISO/IEC 9075-2, <sort specification list>, <null ordering>). No other list
-- has the same rows and ascends (`order_law` of report_rows), in whatever order the rows were found
-- (`arranged_law`).
use Rattle.std.specs.Cmp.Lexicographic.{slice_cmp}
use Rattle.std.specs.Ordering.{nat_cmp, ordering_reverse, ordering_then}
use Rattle.std.specs.Prelude.{Bool, List, [], ◌∷◌, map, if◌then◌else◌}
use Rattle.std.specs.declared.cmp.Ordering.{Ordering}
use Rattle.std.specs.declared.cmp.Ordering.TheVariants.{Less, Equal, Greater}
use Rattle.semantics.specs.Aggregates.{CellValue}
use Rattle.semantics.specs.Columns.{Field}
use Rattle.semantics.specs.Lists.{sorted_by}
use Rattle.semantics.specs.ResultRows.{set_of, ResultRow}
use Rattle.semantics.specs.Rows.{value_in_row, rows_having_true, row_values, value_in}
use Rattle.semantics.specs.Sets.{grouping_places}
use Rattle.semantics.specs.Syntax.{SortKey, Query}
use Rattle.semantics.specs.Types.{key_expression}
use Rattle.semantics.specs.Values.{Datum, is_null, value_order}

-- ---- grouping columns

-- What a row shows for the grouping columns, in the order in which GROUP BY first names them.
abbrev pub grouping_values : List Field → Query → ResultRow → List Datum
grouping_values fields t found =
    map (value_in (set_of fields t found) found.1.key) (grouping_places fields t)

-- ---- ORDER BY (ISO/IEC 9075-2, <sort specification list>)

-- The value of a key for a row; an alias of SELECT stands for its item.
abbrev pub key_value : List Field → Query → ResultRow → SortKey → Datum
key_value fields t row k = value_in_row fields t row (key_expression t.items k.expression)

-- How NULL compares with a value that is not NULL: it is first or last (<null ordering>).
abbrev pub null_order : Bool → Ordering
null_order nulls_first = if nulls_first then Less else Greater

-- How two values compare under a key. NULL is first or last, as the key says, whatever its
-- direction; other values ascend, or descend under DESC.
abbrev pub compare_by_key : SortKey → Datum → Datum → Ordering
compare_by_key k a b =
    if is_null a then (if is_null b then Equal else null_order k.nulls_first)
    else if is_null b then ordering_reverse (null_order k.nulls_first)
    else if k.descending then ordering_reverse (value_order a b)
    else value_order a b

-- How two rows compare under keys: as under the first key that tells them apart.
abbrev pub compare_by_keys : List Field → Query → List SortKey → ResultRow → ResultRow → Ordering
compare_by_keys fields t [] x y = Equal
compare_by_keys fields t (k ∷ ks) x y =
    ordering_then (compare_by_key k (key_value fields t x k) (key_value fields t y k))
    (compare_by_keys fields t ks x y)

-- ---- rows in order

-- How two rows compare: by the keys of ORDER BY, then by the index of their grouping set, and
-- within one set by their values in the grouping columns, from the first; these ascend, and NULL
-- is last.
abbrev pub row_order : List Field → Query → ResultRow → ResultRow → Ordering
row_order fields t x y =
    ordering_then (compare_by_keys fields t t.keys x y)
    (ordering_then (nat_cmp x.0 y.0)
    (slice_cmp value_order (grouping_values fields t x) (grouping_values fields t y)))

-- The rows of a report in their order: those for which HAVING is True.
abbrev pub sorted_rows : List Field → Query → List ResultRow → List ResultRow
sorted_rows fields t found = sorted_by (row_order fields t) (rows_having_true fields t found)

-- What a report shows: for each group for which HAVING is True, in the order of the rows, its
-- cells.
abbrev pub report_values : List Field → Query → List ResultRow → List (List CellValue)
report_values fields t found = map (row_values fields t) (sorted_rows fields t found)
