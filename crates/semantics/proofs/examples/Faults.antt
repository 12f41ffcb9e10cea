-- Queries, and what is wrong with them.
use Rattle.std.proofs.Common.{◌≡◌, pos, true, false, [], ◌∷◌, codes, refl, Some}
use Rattle.std.specs.Fmt.{digits}
use Rattle.std.specs.Str.{is_utf8, chars}
use Rattle.serde_json.proofs.OnLiterals.{serde_json_on_literals}
use Rattle.csv.specs.Writing.{escaped, fields_text, is_blank}
use Rattle.semantics.specs.Faults.{query_faults}
use Rattle.semantics.specs.Syntax.{Query, name, expression, literal, compare, column, set, rollup, cube}
use Rattle.semantics.specs.Words.{reserved_word}
use Rattle.semantics.specs.declared.query_fault.QueryFault.TheVariants.{UnknownColumn, TypesDisagree, NotGrouped, OverLimit, FunctionNotAllowed, RepeatedHeader}
use Rattle.semantics.proofs.examples.Given.{columns, column_of_type, select, item, item_as, over, over_those, value, sorted_by_key, count_rows}
use Rattle.semantics.specs.declared.aggregate.Aggregate.TheVariants as aggregate
use Rattle.semantics.specs.declared.comparison.Op.TheVariants as op
use Rattle.semantics.specs.declared.kind.Kind.TheVariants as kind
use Rattle.semantics.specs.declared.literal.Literal.TheVariants as constant

-- SELECT d FROM lines GROUP BY r
abbrev not_grouped : Query
not_grouped = select (item (name (codes "d")) ∷ []) (set (codes "r" ∷ []) ∷ [])

not_grouped-faults : query_faults columns not_grouped ≡ NotGrouped (codes "d") ∷ []
unfolding serde_json_on_literals is_utf8 chars digits escaped fields_text is_blank reserved_word query_faults
not_grouped-faults = refl

-- SELECT COUNT(*) FROM lines WHERE COUNT(*) > 1
abbrev function_in_where : Query
function_in_where = record (select (item (over count_rows) ∷ []) []) {
  where_condition = Some
      (compare (expression (over count_rows)) op.Gt (literal (constant.Integer (pos 1))));
}

function_in_where-faults : query_faults columns function_in_where ≡ FunctionNotAllowed ∷ []
unfolding serde_json_on_literals is_utf8 chars digits escaped fields_text is_blank reserved_word query_faults
function_in_where-faults = refl

-- SELECT COUNT(*) FROM lines WHERE d > 1
abbrev text_above_number : Query
text_above_number = record (select (item (over count_rows) ∷ []) [])
    { where_condition = Some (compare (value "d") op.Gt (literal (constant.Integer (pos 1)))) }

text_above_number-faults : query_faults columns text_above_number ≡ TypesDisagree ∷ []
unfolding serde_json_on_literals is_utf8 chars digits escaped fields_text is_blank reserved_word query_faults
text_above_number-faults = refl

-- SELECT d AS n, COUNT(*) AS n FROM lines GROUP BY d
abbrev repeated_header : Query
repeated_header = select (item_as (name (codes "d")) "n" ∷ item_as (over count_rows) "n" ∷ [])
    (set (codes "d" ∷ []) ∷ [])

repeated_header-faults : query_faults columns repeated_header ≡ RepeatedHeader (codes "n") ∷ []
unfolding serde_json_on_literals is_utf8 chars digits escaped fields_text is_blank reserved_word query_faults
repeated_header-faults = refl

-- SELECT COUNT(*) FROM lines GROUP BY CUBE (a, b, c, d, e, f, g, h)
abbrev cube_of_eight : Query
cube_of_eight = select (item (over count_rows) ∷ [])
    (cube ((codes "a" ∷ []) ∷ (codes "b" ∷ []) ∷ (codes "c" ∷ []) ∷ (codes "d" ∷ [])
    ∷ (codes "e" ∷ []) ∷ (codes "f" ∷ []) ∷ (codes "g" ∷ []) ∷ (codes "h" ∷ []) ∷ []) ∷ [])

cube_of_eight-faults : query_faults
    (column_of_type "a" kind.Int ∷ column_of_type "b" kind.Int ∷ column_of_type "c" kind.Int
    ∷ column_of_type "d" kind.Int ∷ column_of_type "e" kind.Int ∷ column_of_type "f" kind.Int
    ∷ column_of_type "g" kind.Int ∷ column_of_type "h" kind.Int ∷ column_of_type "i" kind.Int
    ∷ []) cube_of_eight ≡ []
unfolding serde_json_on_literals is_utf8 chars digits escaped fields_text is_blank reserved_word query_faults
cube_of_eight-faults = refl

-- SELECT COUNT(*) FROM lines GROUP BY CUBE (a, b, c, d, e, f, g, h, i)
abbrev cube_of_nine : Query
cube_of_nine = select (item (over count_rows) ∷ [])
    (cube ((codes "a" ∷ []) ∷ (codes "b" ∷ []) ∷ (codes "c" ∷ []) ∷ (codes "d" ∷ [])
    ∷ (codes "e" ∷ []) ∷ (codes "f" ∷ []) ∷ (codes "g" ∷ []) ∷ (codes "h" ∷ []) ∷ (codes "i" ∷ [])
    ∷ []) ∷ [])

cube_of_nine-faults : query_faults
    (column_of_type "a" kind.Int ∷ column_of_type "b" kind.Int ∷ column_of_type "c" kind.Int
    ∷ column_of_type "d" kind.Int ∷ column_of_type "e" kind.Int ∷ column_of_type "f" kind.Int
    ∷ column_of_type "g" kind.Int ∷ column_of_type "h" kind.Int ∷ column_of_type "i" kind.Int
    ∷ []) cube_of_nine ≡ OverLimit ∷ []
unfolding serde_json_on_literals is_utf8 chars digits escaped fields_text is_blank reserved_word query_faults
cube_of_nine-faults = refl

-- SELECT k, COUNT(*) AS n, COUNT(q) AS c, COUNT(DISTINCT q) AS u, MIN(q) AS lo, MAX(q) AS hi,
-- AVG(q) AS a FROM lines GROUP BY ROLLUP (k) ORDER BY a
abbrev order_by_average : Query
order_by_average = record
    (select (item (name (codes "k")) ∷ item_as (over count_rows) "n" ∷ item_as
    (over (aggregate.Count (codes "q"))) "c" ∷ item_as
    (over (aggregate.CountDistinct (codes "q"))) "u" ∷ item_as (over (aggregate.Min (codes "q")))
    "lo" ∷ item_as (over (aggregate.Max (codes "q"))) "hi" ∷ item_as
    (over (aggregate.Avg (codes "q"))) "a" ∷ []) (rollup ((codes "k" ∷ []) ∷ []) ∷ []))
    { keys = sorted_by_key (name (codes "a")) false false ∷ [] }

order_by_average-faults : query_faults
    (column_of_type "k" kind.Text ∷ column_of_type "q" kind.Int ∷ []) order_by_average
    ≡ FunctionNotAllowed ∷ []
unfolding serde_json_on_literals is_utf8 chars digits escaped fields_text is_blank reserved_word query_faults
order_by_average-faults = refl

-- SELECT COUNT(*) FROM lines HAVING AVG(q) > 1
abbrev having_average : Query
having_average = record (select (item (over count_rows) ∷ []) []) {
  having_condition = Some
      (compare (expression (over (aggregate.Avg (codes "q")))) op.Gt
      (literal (constant.Integer (pos 1))));
}

having_average-faults : query_faults columns having_average ≡ FunctionNotAllowed ∷ TypesDisagree
    ∷ []
unfolding serde_json_on_literals is_utf8 chars digits escaped fields_text is_blank reserved_word query_faults
having_average-faults = refl

-- SELECT COUNT(*) FROM lines HAVING MIN(d) > 1
abbrev having_min_of_text : Query
having_min_of_text = record (select (item (over count_rows) ∷ []) []) {
  having_condition = Some
      (compare (expression (over (aggregate.Min (codes "d")))) op.Gt
      (literal (constant.Integer (pos 1))));
}

having_min_of_text-faults : query_faults columns having_min_of_text ≡ TypesDisagree ∷ []
unfolding serde_json_on_literals is_utf8 chars digits escaped fields_text is_blank reserved_word query_faults
having_min_of_text-faults = refl

-- SELECT COUNT(*) FILTER (WHERE COUNT(*) > 1) FROM lines
abbrev function_in_filter : Query
function_in_filter = select
    (item (over_those count_rows
    (compare (expression (over count_rows)) op.Gt (literal (constant.Integer (pos 1))))) ∷ []) []

function_in_filter-faults : query_faults columns function_in_filter ≡ FunctionNotAllowed ∷ []
unfolding serde_json_on_literals is_utf8 chars digits escaped fields_text is_blank reserved_word query_faults
function_in_filter-faults = refl

-- SELECT COUNT(*) FILTER (WHERE d) FROM lines
abbrev text_in_filter : Query
text_in_filter = select (item (over_those count_rows (column (codes "d"))) ∷ []) []

text_in_filter-faults : query_faults columns text_in_filter ≡ TypesDisagree ∷ []
unfolding serde_json_on_literals is_utf8 chars digits escaped fields_text is_blank reserved_word query_faults
text_in_filter-faults = refl

-- SELECT d FROM lines WHERE x = 1 GROUP BY y HAVING q = TRUE
abbrev many_faults : Query
many_faults = record (select (item (name (codes "d")) ∷ []) (set (codes "y" ∷ []) ∷ [])) {
  where_condition = Some (compare (value "x") op.Eq (literal (constant.Integer (pos 1))));
  having_condition = Some (compare (value "q") op.Eq (literal (constant.Truth true)));
}

many_faults-faults : query_faults columns many_faults ≡ UnknownColumn (codes "x") ∷ TypesDisagree
    ∷ UnknownColumn (codes "y") ∷ NotGrouped (codes "d") ∷ NotGrouped (codes "q") ∷ TypesDisagree
    ∷ []
unfolding serde_json_on_literals is_utf8 chars digits escaped fields_text is_blank reserved_word query_faults
many_faults-faults = refl
