-- The definitions at some values.
use Rattle.std.proofs.Common.{◌≡◌, ℕ, pos, negsuc, true, false, List, [], ◌∷◌, codes, refl, None, Some}
use Rattle.std.specs.declared.cmp.Ordering.TheVariants.{Greater}
use Rattle.std.specs.Fmt.{digits}
use Rattle.csv.specs.Writing.{fields_text, is_blank}
use Rattle.semantics.specs.Values.{Datum, boolean, whole, text, null}
use Rattle.semantics.specs.Columns.{Field}
use Rattle.semantics.specs.declared.kind.Kind.TheVariants as kind
use Rattle.semantics.specs.declared.line_fault.LineFault.TheVariants.{NoJson, BadValue}
use Rattle.semantics.specs.declared.comparison.Op.TheVariants.{Eq, Gt}
use Rattle.semantics.specs.declared.truth.Truth.TheVariants.{Unknown}
use Rattle.semantics.specs.declared.aggregate.Aggregate.TheVariants as aggregate
use Rattle.semantics.specs.declared.literal.Literal.TheVariants as constant
use Rattle.semantics.specs.Syntax.{SortKey, Predicate, Query, name, grouping, function, over_all, rollup, expression, literal, or_of, not_of, compare, null_test, no_parts, part}
use Rattle.semantics.specs.Aggregates.{CellValue, plain, ratio}
use Rattle.semantics.specs.ResultRows.{ResultRow}
use Rattle.semantics.specs.Conditions.{truth}
use Rattle.semantics.specs.Rows.{binary_value, value_in_row, rows_having_true}
use Rattle.semantics.specs.Order.{sorted_rows, compare_by_key, report_values}
use Rattle.report.specs.Report.{refusals_of, report_of}
use Rattle.semantics.specs.Texts.{cell_field, escaped_text, report_bytes}

six-is-110 : binary_value (false ∷ true ∷ true ∷ []) ≡ 6
six-is-110 = refl

-- the text \N is not NULL
a-backslash-is-marked : escaped_text (codes "\\N") ≡ codes "\\\\N"
a-backslash-is-marked = refl

an-average : cell_field (ratio (negsuc 6) 2) ≡ codes "-7/2"
unfolding digits
an-average = refl

a-number : cell_field (plain (whole (negsuc 19))) ≡ codes "-20"
unfolding digits
a-number = refl

a-truth-value : cell_field (plain (boolean true)) ≡ codes "true"
a-truth-value = refl

no-value : cell_field (plain null) ≡ codes "\\N"
no-value = refl

-- ---- a report

-- the columns d and r
abbrev fields : List Field
fields = record { name = codes "d"; kind = kind.Text } ∷ record { name = codes "r"; kind = kind.Text } ∷ []

-- SELECT d AS day, GROUPING(d, r) AS g, COUNT(*) AS n FROM lines GROUP BY ROLLUP (d, r)
abbrev query : Query
query = record {
  items = record { expression = name (codes "d"); alias = Some (codes "day") }
      ∷ record { expression = grouping (codes "d" ∷ codes "r" ∷ []); alias = Some (codes "g") }
      ∷ record { expression = function (over_all aggregate.CountRows); alias = Some (codes "n") } ∷ [];
  where_condition = None;
  distinct_sets = false;
  groups = rollup ((codes "d" ∷ []) ∷ (codes "r" ∷ []) ∷ []) ∷ [];
  having_condition = None;
  keys = [];
}

abbrev group : ℕ → List Datum → ℕ → ResultRow
group index key count = (index, record { key = key; lines = count; cells = plain (whole (pos count)) ∷ [] })

-- the groups in no order
abbrev found : List ResultRow
found = group 2 [] 3 ∷ group 0 (text (codes "x") ∷ null ∷ []) 1 ∷ group 1 (text (codes "y") ∷ []) 1 ∷ group 0 (text (codes "x") ∷ text (codes "n") ∷ []) 1 ∷ group 1 (text (codes "x") ∷ []) 2 ∷ []

abbrev shown : Datum → ℕ → ℕ → List CellValue
shown d g n = plain d ∷ plain (whole (pos g)) ∷ plain (whole (pos n)) ∷ []

rows-of-a-rollup : report_values fields query found
    ≡ shown (text (codes "x")) 0 1 ∷ shown (text (codes "x")) 0 1 ∷ shown (text (codes "x")) 1 2 ∷ shown (text (codes "y")) 1 1 ∷ shown null 3 3 ∷ []
rows-of-a-rollup = refl

report-of-a-rollup : report_of fields query found ≡ codes "day,g,n\nx,0,1\nx,0,1\nx,1,2\ny,1,1\n\\N,3,3\n"
unfolding digits fields_text is_blank
report-of-a-rollup = refl

-- ---- a report with keys

abbrev ordered_by : List SortKey → Query
ordered_by keys = record { items = query.items; where_condition = None; distinct_sets = false; groups = query.groups; having_condition = None; keys = keys }

-- ORDER BY n DESC, r NULLS FIRST: of the rows of one record, those that show NULL for r are first;
-- of these the one of the first set is
by-a-count : sorted_rows fields (ordered_by (record { expression = name (codes "n"); descending = true; nulls_first = true } ∷ record { expression = name (codes "r"); descending = false; nulls_first = true } ∷ [])) found
    ≡ group 2 [] 3 ∷ group 1 (text (codes "x") ∷ []) 2 ∷ group 0 (text (codes "x") ∷ null ∷ []) 1 ∷ group 1 (text (codes "y") ∷ []) 1 ∷ group 0 (text (codes "x") ∷ text (codes "n") ∷ []) 1 ∷ []
by-a-count = refl

-- ORDER BY GROUPING(d, r) DESC, day DESC NULLS LAST: the alias of the first item stands for it
by-an-alias : report_values fields (ordered_by (record { expression = grouping (codes "d" ∷ codes "r" ∷ []); descending = true; nulls_first = true } ∷ record { expression = name (codes "day"); descending = true; nulls_first = false } ∷ [])) found
    ≡ shown null 3 3 ∷ shown (text (codes "y")) 1 1 ∷ shown (text (codes "x")) 1 2 ∷ shown (text (codes "x")) 0 1 ∷ shown (text (codes "x")) 0 1 ∷ []
by-an-alias = refl

-- DESC does not turn the place of NULL
null-under-desc : compare_by_key (record { expression = name (codes "r"); descending = true; nulls_first = false }) null (text (codes "n")) ≡ Greater
null-under-desc = refl

-- a row of one empty field, and a header that is not marked
a-lone-field : report_bytes (record { expression = name (codes "r"); alias = Some (codes "\\") } ∷ []) ((plain (text []) ∷ []) ∷ []) ≡ codes "\\\n\"\"\n"
unfolding fields_text is_blank
a-lone-field = refl

-- ---- HAVING

-- the same query with HAVING
abbrev query_having : Predicate → Query
query_having p = record { items = query.items; where_condition = query.where_condition; distinct_sets = false; groups = query.groups; having_condition = Some p; keys = query.keys }

-- GROUPING(d) = 1 OR COUNT(*) > 1
abbrev rolled_up_or_many : Predicate
rolled_up_or_many = or_of
    (part (compare (expression (grouping (codes "d" ∷ []))) Eq (literal (constant.Integer (pos 1))))
    (part (compare (expression (function (over_all aggregate.CountRows))) Gt (literal (constant.Integer (pos 1)))) no_parts))

-- r = 'n'
abbrev r_is_n : Predicate
r_is_n = compare (expression (name (codes "r"))) Eq (literal (constant.Text (codes "n")))

rows-of-some : rows_having_true fields (query_having rolled_up_or_many) found ≡ group 2 [] 3 ∷ group 1 (text (codes "x") ∷ []) 2 ∷ []
rows-of-some = refl

rows-of-a-text : rows_having_true fields (query_having r_is_n) found ≡ group 0 (text (codes "x") ∷ text (codes "n") ∷ []) 1 ∷ []
rows-of-a-text = refl

-- a column that is not in the set of the row is NULL, so a comparison with it is unknown, and NOT
-- is True of no such row
unknown-where-rolled-up : truth (value_in_row fields (query_having r_is_n) (group 1 (text (codes "y") ∷ []) 1)) r_is_n ≡ Unknown
unknown-where-rolled-up = refl

no-row-of-what-is-not-so : rows_having_true fields (query_having (not_of r_is_n)) found ≡ []
no-row-of-what-is-not-so = refl

report-of-NULL : report_of fields (query_having (null_test (expression (name (codes "r"))) false)) found ≡ codes "day,g,n\nx,0,1\nx,1,2\ny,1,1\n\\N,3,3\n"
unfolding digits fields_text is_blank
report-of-NULL = refl

-- ---- refused lines

some-refused : refusals_of fields ((2, NoJson) ∷ (13, BadValue 1) ∷ []) ≡ codes "line 2: not JSON\nline 13: bad value in column r\n"
unfolding digits
some-refused = refl
