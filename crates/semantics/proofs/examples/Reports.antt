-- Reports and lists of refused lines, from the bytes of an input.
use Rattle.std.proofs.Common.{◌≡◌, pos, true, false, [], ◌∷◌, codes, refl, Some}
use Rattle.std.specs.Fmt.{digits}
use Rattle.std.specs.Str.{is_utf8, chars}
use Rattle.serde_json.proofs.OnLiterals.{serde_json_on_literals}
use Rattle.csv.specs.Writing.{escaped, fields_text, is_blank}
use Rattle.semantics.specs.Faults.{query_faults}
use Rattle.semantics.specs.Run.{report, refusals}
use Rattle.semantics.specs.Syntax.{Query, name, grouping, expression, literal, or_of, not_of, compare, member, null_test, set, rollup, cube, sets, predicate_forms, element_forms}
use Rattle.semantics.specs.Words.{reserved_word}
use Rattle.semantics.proofs.examples.Given.{columns, three_lines, column_of_type, select, item, item_as, over, over_those, value, sorted_by_key, count_rows}
use Rattle.semantics.specs.declared.aggregate.Aggregate.TheVariants as aggregate
use Rattle.semantics.specs.declared.comparison.Op.TheVariants as op
use Rattle.semantics.specs.declared.kind.Kind.TheVariants as kind
use Rattle.semantics.specs.declared.literal.Literal.TheVariants as constant

-- SELECT d, COUNT(*) AS n, SUM(q) AS s FROM lines GROUP BY d
abbrev grouped : Query
grouped = select (item (name (codes "d")) ∷ item_as (over count_rows) "n" ∷ item_as
    (over (aggregate.Sum (codes "q"))) "s" ∷ []) (set (codes "d" ∷ []) ∷ [])

grouped-faults : query_faults columns grouped ≡ []
unfolding serde_json_on_literals is_utf8 chars digits escaped fields_text is_blank reserved_word query_faults
grouped-faults = refl

grouped-report : report columns grouped three_lines ≡ codes "d,n,s\nx,2,7\ny,1,\\N\n"
unfolding serde_json_on_literals is_utf8 chars digits escaped fields_text is_blank reserved_word query_faults
grouped-report = refl

-- The same for an input whose last line has no line feed.
no_last_feed : report columns grouped
    (codes "{\"d\":\"x\",\"r\":\"n\",\"q\":5}\n{\"d\":\"x\",\"r\":null,\"q\":2}\n{\"d\":\"y\",\"r\":\"n\"}") ≡ codes "d,n,s\nx,2,7\ny,1,\\N\n"
unfolding serde_json_on_literals is_utf8 chars digits escaped fields_text is_blank reserved_word query_faults
no_last_feed = refl

-- SELECT d, r, GROUPING(d, r) AS g, COUNT(*) AS n FROM lines GROUP BY ROLLUP (d, r)
abbrev rolled_up : Query
rolled_up = select
    (item (name (codes "d")) ∷ item (name (codes "r")) ∷ item_as
    (grouping (codes "d" ∷ codes "r" ∷ [])) "g" ∷ item_as (over count_rows) "n" ∷ [])
    (rollup ((codes "d" ∷ []) ∷ (codes "r" ∷ []) ∷ []) ∷ [])

rolled_up-faults : query_faults columns rolled_up ≡ []
unfolding serde_json_on_literals is_utf8 chars digits escaped fields_text is_blank reserved_word query_faults
rolled_up-faults = refl

rolled_up-report : report columns rolled_up three_lines ≡ codes
    "d,r,g,n\nx,n,0,1\nx,\\N,0,1\ny,n,0,1\nx,\\N,1,2\ny,\\N,1,1\n\\N,\\N,3,3\n"
unfolding serde_json_on_literals is_utf8 chars digits escaped fields_text is_blank reserved_word query_faults
rolled_up-report = refl

-- SELECT COUNT(*) AS n, SUM(q) AS s FROM lines
abbrev no_lines : Query
no_lines = select
    (item_as (over count_rows) "n" ∷ item_as (over (aggregate.Sum (codes "q"))) "s" ∷ []) []

no_lines-faults : query_faults columns no_lines ≡ []
unfolding serde_json_on_literals is_utf8 chars digits escaped fields_text is_blank reserved_word query_faults
no_lines-faults = refl

no_lines-report : report columns no_lines (codes "") ≡ codes "n,s\n0,\\N\n"
unfolding serde_json_on_literals is_utf8 chars digits escaped fields_text is_blank reserved_word query_faults
no_lines-report = refl

-- SELECT d, COUNT(*) AS n FROM lines GROUP BY GROUPING SETS (d, ())
abbrev sets_of_no_lines : Query
sets_of_no_lines = select (item (name (codes "d")) ∷ item_as (over count_rows) "n" ∷ [])
    (sets (element_forms (set (codes "d" ∷ []) ∷ set [] ∷ [])) ∷ [])

sets_of_no_lines-faults : query_faults columns sets_of_no_lines ≡ []
unfolding serde_json_on_literals is_utf8 chars digits escaped fields_text is_blank reserved_word query_faults
sets_of_no_lines-faults = refl

sets_of_no_lines-report : report columns sets_of_no_lines (codes "") ≡ codes "d,n\n\\N,0\n"
unfolding serde_json_on_literals is_utf8 chars digits escaped fields_text is_blank reserved_word query_faults
sets_of_no_lines-report = refl

-- SELECT SUM(q) AS s FROM lines
abbrev wide_sum : Query
wide_sum = select (item_as (over (aggregate.Sum (codes "q"))) "s" ∷ []) []

wide_sum-faults : query_faults columns wide_sum ≡ []
unfolding serde_json_on_literals is_utf8 chars digits escaped fields_text is_blank reserved_word query_faults
wide_sum-faults = refl

wide_sum-report : report columns wide_sum
    (codes "{\"q\":9223372036854775807}\n{\"q\":9223372036854775807}\n{\"q\":9223372036854775807}\n") ≡ codes "s\n27670116110564327421\n"
unfolding serde_json_on_literals is_utf8 chars digits escaped fields_text is_blank reserved_word query_faults
wide_sum-report = refl

-- SELECT d, COUNT(*) AS n FROM lines GROUP BY ROLLUP (d), ROLLUP (d)
abbrev rollup_twice : Query
rollup_twice = select (item (name (codes "d")) ∷ item_as (over count_rows) "n" ∷ [])
    (rollup ((codes "d" ∷ []) ∷ []) ∷ rollup ((codes "d" ∷ []) ∷ []) ∷ [])

rollup_twice-faults : query_faults columns rollup_twice ≡ []
unfolding serde_json_on_literals is_utf8 chars digits escaped fields_text is_blank reserved_word query_faults
rollup_twice-faults = refl

rollup_twice-report : report columns rollup_twice three_lines ≡ codes
    "d,n\nx,2\ny,1\nx,2\ny,1\nx,2\ny,1\n\\N,3\n"
unfolding serde_json_on_literals is_utf8 chars digits escaped fields_text is_blank reserved_word query_faults
rollup_twice-report = refl

-- SELECT d, SUM(q) AS s, MIN(d) AS m FROM lines GROUP BY GROUPING SETS (d, ())
abbrev sets_with_min : Query
sets_with_min = select
    (item (name (codes "d")) ∷ item_as (over (aggregate.Sum (codes "q"))) "s" ∷ item_as
    (over (aggregate.Min (codes "d"))) "m" ∷ [])
    (sets (element_forms (set (codes "d" ∷ []) ∷ set [] ∷ [])) ∷ [])

sets_with_min-faults : query_faults columns sets_with_min ≡ []
unfolding serde_json_on_literals is_utf8 chars digits escaped fields_text is_blank reserved_word query_faults
sets_with_min-faults = refl

sets_with_min-report : report columns sets_with_min three_lines ≡ codes
    "d,s,m\nx,7,x\ny,\\N,y\n\\N,7,x\n"
unfolding serde_json_on_literals is_utf8 chars digits escaped fields_text is_blank reserved_word query_faults
sets_with_min-report = refl

-- SELECT COUNT(DISTINCT d) AS k FROM lines
abbrev distinct_count : Query
distinct_count = select (item_as (over (aggregate.CountDistinct (codes "d"))) "k" ∷ []) []

distinct_count-faults : query_faults columns distinct_count ≡ []
unfolding serde_json_on_literals is_utf8 chars digits escaped fields_text is_blank reserved_word query_faults
distinct_count-faults = refl

distinct_count-report : report columns distinct_count three_lines ≡ codes "k\n2\n"
unfolding serde_json_on_literals is_utf8 chars digits escaped fields_text is_blank reserved_word query_faults
distinct_count-report = refl

-- SELECT COUNT(*) AS n FROM lines
abbrev refused_all : Query
refused_all = select (item_as (over count_rows) "n" ∷ []) []

refused_all-faults : query_faults (column_of_type "q" kind.Int ∷ []) refused_all ≡ []
unfolding serde_json_on_literals is_utf8 chars digits escaped fields_text is_blank reserved_word query_faults
refused_all-faults = refl

refused_all-report : report (column_of_type "q" kind.Int ∷ []) refused_all
    (codes "\n[1]\n{\"q\":true}\n{\"q\":9223372036854775808}\n") ≡ codes "n\n0\n"
unfolding serde_json_on_literals is_utf8 chars digits escaped fields_text is_blank reserved_word query_faults
refused_all-report = refl

refused_all-refused : refusals (column_of_type "q" kind.Int ∷ [])
    (codes "\n[1]\n{\"q\":true}\n{\"q\":9223372036854775808}\n") ≡ codes
    "line 1: not JSON\nline 2: not an object\nline 3: bad value in column q\nline 4: bad value in column q\n"
unfolding serde_json_on_literals is_utf8 chars digits escaped fields_text is_blank reserved_word query_faults
refused_all-refused = refl

-- SELECT r, COUNT(*) AS n FROM lines GROUP BY r
abbrev escaped_fields : Query
escaped_fields = select (item (name (codes "r")) ∷ item_as (over count_rows) "n" ∷ [])
    (set (codes "r" ∷ []) ∷ [])

escaped_fields-faults : query_faults (column_of_type "r" kind.Text ∷ []) escaped_fields ≡ []
unfolding serde_json_on_literals is_utf8 chars digits escaped fields_text is_blank reserved_word query_faults
escaped_fields-faults = refl

escaped_fields-report : report (column_of_type "r" kind.Text ∷ []) escaped_fields
    (codes "{\"r\":\"\\\\N\"}\n{\"r\":\"a,b\"}\n{\"r\":\"say \\\"hi\\\"\"}\n{\"r\":\"\"}\n{}\n")
    ≡ codes "r,n\n,1\n\\\\N,1\n\"a,b\",1\n\"say \"\"hi\"\"\",1\n\\N,1\n"
unfolding serde_json_on_literals is_utf8 chars digits escaped fields_text is_blank reserved_word query_faults
escaped_fields-report = refl

escaped_fields-refused : refusals (column_of_type "r" kind.Text ∷ [])
    (codes "{\"r\":\"\\\\N\"}\n{\"r\":\"a,b\"}\n{\"r\":\"say \\\"hi\\\"\"}\n{\"r\":\"\"}\n{}\n")
    ≡ codes ""
unfolding serde_json_on_literals is_utf8 chars digits escaped fields_text is_blank reserved_word query_faults
escaped_fields-refused = refl

-- SELECT d, SUM(q) AS s FROM lines GROUP BY d ORDER BY s DESC
abbrev descending : Query
descending = record
    (select (item (name (codes "d")) ∷ item_as (over (aggregate.Sum (codes "q"))) "s" ∷ [])
    (set (codes "d" ∷ []) ∷ [])) { keys = sorted_by_key (name (codes "s")) true true ∷ [] }

descending-faults : query_faults columns descending ≡ []
unfolding serde_json_on_literals is_utf8 chars digits escaped fields_text is_blank reserved_word query_faults
descending-faults = refl

descending-report : report columns descending three_lines ≡ codes "d,s\ny,\\N\nx,7\n"
unfolding serde_json_on_literals is_utf8 chars digits escaped fields_text is_blank reserved_word query_faults
descending-report = refl

-- SELECT d, SUM(q) AS s FROM lines GROUP BY d ORDER BY s DESC NULLS LAST
abbrev descending_nulls_last : Query
descending_nulls_last = record
    (select (item (name (codes "d")) ∷ item_as (over (aggregate.Sum (codes "q"))) "s" ∷ [])
    (set (codes "d" ∷ []) ∷ [])) { keys = sorted_by_key (name (codes "s")) true false ∷ [] }

descending_nulls_last-faults : query_faults columns descending_nulls_last ≡ []
unfolding serde_json_on_literals is_utf8 chars digits escaped fields_text is_blank reserved_word query_faults
descending_nulls_last-faults = refl

descending_nulls_last-report : report columns descending_nulls_last three_lines ≡ codes
    "d,s\nx,7\ny,\\N\n"
unfolding serde_json_on_literals is_utf8 chars digits escaped fields_text is_blank reserved_word query_faults
descending_nulls_last-report = refl

-- SELECT d, COUNT(*) AS n FROM lines GROUP BY ROLLUP (d) HAVING GROUPING(d) = 1 OR COUNT(*) > 1
abbrev having_either : Query
having_either = record
    (select (item (name (codes "d")) ∷ item_as (over count_rows) "n" ∷ [])
    (rollup ((codes "d" ∷ []) ∷ []) ∷ [])) {
      having_condition = Some
          (or_of (predicate_forms
          ((compare (expression (grouping (codes "d" ∷ []))) op.Eq (literal (constant.Integer (pos 1))))
          ∷ (compare (expression (over count_rows)) op.Gt (literal (constant.Integer (pos 1)))) ∷ [])));
    }

having_either-faults : query_faults columns having_either ≡ []
unfolding serde_json_on_literals is_utf8 chars digits escaped fields_text is_blank reserved_word query_faults
having_either-faults = refl

having_either-report : report columns having_either three_lines ≡ codes "d,n\nx,2\n\\N,3\n"
unfolding serde_json_on_literals is_utf8 chars digits escaped fields_text is_blank reserved_word query_faults
having_either-report = refl

-- SELECT d, AVG(q) FROM lines GROUP BY d
abbrev average : Query
average = select (item (name (codes "d")) ∷ item (over (aggregate.Avg (codes "q"))) ∷ [])
    (set (codes "d" ∷ []) ∷ [])

average-faults : query_faults columns average ≡ []
unfolding serde_json_on_literals is_utf8 chars digits escaped fields_text is_blank reserved_word query_faults
average-faults = refl

average-report : report columns average three_lines ≡ codes "d,AVG(q)\nx,7/2\ny,\\N\n"
unfolding serde_json_on_literals is_utf8 chars digits escaped fields_text is_blank reserved_word query_faults
average-report = refl

-- SELECT r FROM lines GROUP BY r
abbrev empty_text : Query
empty_text = select (item (name (codes "r")) ∷ []) (set (codes "r" ∷ []) ∷ [])

empty_text-faults : query_faults (column_of_type "r" kind.Text ∷ []) empty_text ≡ []
unfolding serde_json_on_literals is_utf8 chars digits escaped fields_text is_blank reserved_word query_faults
empty_text-faults = refl

empty_text-report : report (column_of_type "r" kind.Text ∷ []) empty_text (codes "{\"r\":\"\"}\n")
    ≡ codes "r\n\"\"\n"
unfolding serde_json_on_literals is_utf8 chars digits escaped fields_text is_blank reserved_word query_faults
empty_text-report = refl

-- SELECT GROUPING(r, d) AS g, COUNT(*) AS n FROM lines GROUP BY r, CUBE (d)
abbrev grouping_of_cube : Query
grouping_of_cube = select
    (item_as (grouping (codes "r" ∷ codes "d" ∷ [])) "g" ∷ item_as (over count_rows) "n" ∷ [])
    (set (codes "r" ∷ []) ∷ cube ((codes "d" ∷ []) ∷ []) ∷ [])

grouping_of_cube-faults : query_faults columns grouping_of_cube ≡ []
unfolding serde_json_on_literals is_utf8 chars digits escaped fields_text is_blank reserved_word query_faults
grouping_of_cube-faults = refl

grouping_of_cube-report : report columns grouping_of_cube three_lines ≡ codes
    "g,n\n0,1\n0,1\n0,1\n1,2\n1,1\n"
unfolding serde_json_on_literals is_utf8 chars digits escaped fields_text is_blank reserved_word query_faults
grouping_of_cube-report = refl

-- SELECT k, COUNT(*) AS n, COUNT(q) AS c, COUNT(DISTINCT q) AS u, MIN(q) AS lo, MAX(q) AS hi,
-- AVG(q) AS a FROM lines GROUP BY ROLLUP (k) ORDER BY GROUPING(k) DESC, k NULLS FIRST
abbrev all_functions : Query
all_functions = record
    (select (item (name (codes "k")) ∷ item_as (over count_rows) "n" ∷ item_as
    (over (aggregate.Count (codes "q"))) "c" ∷ item_as
    (over (aggregate.CountDistinct (codes "q"))) "u" ∷ item_as (over (aggregate.Min (codes "q")))
    "lo" ∷ item_as (over (aggregate.Max (codes "q"))) "hi" ∷ item_as
    (over (aggregate.Avg (codes "q"))) "a" ∷ []) (rollup ((codes "k" ∷ []) ∷ []) ∷ [])) {
      keys = sorted_by_key (grouping (codes "k" ∷ [])) true true ∷ sorted_by_key
          (name (codes "k")) false true ∷ [];
    }

all_functions-faults : query_faults
    (column_of_type "k" kind.Text ∷ column_of_type "q" kind.Int ∷ []) all_functions ≡ []
unfolding serde_json_on_literals is_utf8 chars digits escaped fields_text is_blank reserved_word query_faults
all_functions-faults = refl

all_functions-report : report (column_of_type "k" kind.Text ∷ column_of_type "q" kind.Int ∷ [])
    all_functions
    (codes "{\"k\":\"a\",\"q\":-3}\n{\"k\":\"b\",\"q\":4}\n{\"k\":\"a\",\"q\":-3}\n{\"k\":\"b\"}\n{\"q\":10}\n") ≡ codes "k,n,c,u,lo,hi,a\n\\N,5,4,3,-3,10,8/4\n\\N,1,1,1,10,10,10/1\na,2,2,1,-3,-3,-6/2\nb,2,1,1,4,4,4/1\n"
unfolding serde_json_on_literals is_utf8 chars digits escaped fields_text is_blank reserved_word query_faults
all_functions-report = refl

-- SELECT COUNT(*) AS n FROM lines HAVING SUM(q) > 100
abbrev having_false : Query
having_false = record (select (item_as (over count_rows) "n" ∷ []) []) {
  having_condition = Some
      (compare (expression (over (aggregate.Sum (codes "q")))) op.Gt
      (literal (constant.Integer (pos 100))));
}

having_false-faults : query_faults columns having_false ≡ []
unfolding serde_json_on_literals is_utf8 chars digits escaped fields_text is_blank reserved_word query_faults
having_false-faults = refl

having_false-report : report columns having_false three_lines ≡ codes "n\n"
unfolding serde_json_on_literals is_utf8 chars digits escaped fields_text is_blank reserved_word query_faults
having_false-report = refl

-- SELECT r, COUNT(DISTINCT d) AS k, SUM(q) AS s FROM lines GROUP BY GROUPING SETS (r, (), d)
abbrev distinct_count_by_sets : Query
distinct_count_by_sets = select
    (item (name (codes "r")) ∷ item_as (over (aggregate.CountDistinct (codes "d"))) "k" ∷ item_as
    (over (aggregate.Sum (codes "q"))) "s" ∷ [])
    (sets (element_forms (set (codes "r" ∷ []) ∷ set [] ∷ set (codes "d" ∷ []) ∷ [])) ∷ [])

distinct_count_by_sets-faults : query_faults columns distinct_count_by_sets ≡ []
unfolding serde_json_on_literals is_utf8 chars digits escaped fields_text is_blank reserved_word query_faults
distinct_count_by_sets-faults = refl

distinct_count_by_sets-report : report columns distinct_count_by_sets three_lines ≡ codes
    "r,k,s\nn,2,5\n\\N,1,2\n\\N,2,7\n\\N,1,7\n\\N,1,\\N\n"
unfolding serde_json_on_literals is_utf8 chars digits escaped fields_text is_blank reserved_word query_faults
distinct_count_by_sets-report = refl

-- SELECT d, SUM(q) AS s FROM lines GROUP BY d
abbrev refused_some : Query
refused_some = select
    (item (name (codes "d")) ∷ item_as (over (aggregate.Sum (codes "q"))) "s" ∷ [])
    (set (codes "d" ∷ []) ∷ [])

refused_some-faults : query_faults columns refused_some ≡ []
unfolding serde_json_on_literals is_utf8 chars digits escaped fields_text is_blank reserved_word query_faults
refused_some-faults = refl

refused_some-report : report columns refused_some
    (codes "{} {}\n{\"q\":\"x\",\"d\":5}\n{\"x\":[[1]],\"d\":\"k\",\"q\":-9223372036854775808}\nnull\n") ≡ codes "d,s\nk,-9223372036854775808\n"
unfolding serde_json_on_literals is_utf8 chars digits escaped fields_text is_blank reserved_word query_faults
refused_some-report = refl

refused_some-refused : refusals columns
    (codes "{} {}\n{\"q\":\"x\",\"d\":5}\n{\"x\":[[1]],\"d\":\"k\",\"q\":-9223372036854775808}\nnull\n") ≡ codes "line 1: not JSON\nline 2: bad value in column d\nline 4: not an object\n"
unfolding serde_json_on_literals is_utf8 chars digits escaped fields_text is_blank reserved_word query_faults
refused_some-refused = refl

-- SELECT d, COUNT(*) FILTER (WHERE r IS NULL) AS z, SUM(q) FILTER (WHERE q > 2) AS s FROM lines
-- GROUP BY ROLLUP (d)
abbrev filters : Query
filters = select (item (name (codes "d")) ∷ item_as
    (over_those count_rows (null_test (value "r") false)) "z" ∷ item_as
    (over_those (aggregate.Sum (codes "q"))
    (compare (value "q") op.Gt (literal (constant.Integer (pos 2))))) "s" ∷ [])
    (rollup ((codes "d" ∷ []) ∷ []) ∷ [])

filters-faults : query_faults columns filters ≡ []
unfolding serde_json_on_literals is_utf8 chars digits escaped fields_text is_blank reserved_word query_faults
filters-faults = refl

filters-report : report columns filters three_lines ≡ codes "d,z,s\nx,1,5\ny,0,\\N\n\\N,1,5\n"
unfolding serde_json_on_literals is_utf8 chars digits escaped fields_text is_blank reserved_word query_faults
filters-report = refl

-- SELECT COUNT(*) FILTER (WHERE q IN (1, 2)) FROM lines
abbrev header_with_commas : Query
header_with_commas = select
    (item (over_those count_rows
    (member (value "q") false (constant.Integer (pos 1) ∷ constant.Integer (pos 2) ∷ []))) ∷ [])
    []

header_with_commas-faults : query_faults columns header_with_commas ≡ []
unfolding serde_json_on_literals is_utf8 chars digits escaped fields_text is_blank reserved_word query_faults
header_with_commas-faults = refl

header_with_commas-report : report columns header_with_commas three_lines ≡ codes
    "\"COUNT(*) FILTER (WHERE q IN (1, 2))\"\n1\n"
unfolding serde_json_on_literals is_utf8 chars digits escaped fields_text is_blank reserved_word query_faults
header_with_commas-report = refl

-- SELECT d, COUNT(*) AS n FROM lines GROUP BY DISTINCT ROLLUP (d), ROLLUP (d)
abbrev rollup_twice_distinct : Query
rollup_twice_distinct = record
    (select (item (name (codes "d")) ∷ item_as (over count_rows) "n" ∷ [])
    (rollup ((codes "d" ∷ []) ∷ []) ∷ rollup ((codes "d" ∷ []) ∷ []) ∷ []))
    { distinct_sets = true }

rollup_twice_distinct-faults : query_faults columns rollup_twice_distinct ≡ []
unfolding serde_json_on_literals is_utf8 chars digits escaped fields_text is_blank reserved_word query_faults
rollup_twice_distinct-faults = refl

rollup_twice_distinct-report : report columns rollup_twice_distinct three_lines ≡ codes
    "d,n\nx,2\ny,1\n\\N,3\n"
unfolding serde_json_on_literals is_utf8 chars digits escaped fields_text is_blank reserved_word query_faults
rollup_twice_distinct-report = refl

-- SELECT COUNT(*) AS d FROM lines GROUP BY d ORDER BY d
abbrev alias_before_column : Query
alias_before_column = record
    (select (item_as (over count_rows) "d" ∷ []) (set (codes "d" ∷ []) ∷ []))
    { keys = sorted_by_key (name (codes "d")) false false ∷ [] }

alias_before_column-faults : query_faults columns alias_before_column ≡ []
unfolding serde_json_on_literals is_utf8 chars digits escaped fields_text is_blank reserved_word query_faults
alias_before_column-faults = refl

alias_before_column-report : report columns alias_before_column three_lines ≡ codes "d\n1\n2\n"
unfolding serde_json_on_literals is_utf8 chars digits escaped fields_text is_blank reserved_word query_faults
alias_before_column-report = refl

-- SELECT d, r, COUNT(*) AS n FROM lines GROUP BY GROUPING SETS ((d, r), d) HAVING r IS NULL ORDER
-- BY n DESC, GROUPING(r) DESC
abbrev having_and_order : Query
having_and_order = record
    (select (item (name (codes "d")) ∷ item (name (codes "r")) ∷ item_as (over count_rows) "n"
    ∷ []) (sets (element_forms (set (codes "d" ∷ codes "r" ∷ []) ∷ set (codes "d" ∷ []) ∷ []))
    ∷ [])) {
      having_condition = Some (null_test (value "r") false);
      keys = sorted_by_key
          (name (codes "n")) true true ∷ sorted_by_key (grouping (codes "r" ∷ [])) true true ∷ [];
    }

having_and_order-faults : query_faults columns having_and_order ≡ []
unfolding serde_json_on_literals is_utf8 chars digits escaped fields_text is_blank reserved_word query_faults
having_and_order-faults = refl

having_and_order-report : report columns having_and_order three_lines ≡ codes
    "d,r,n\nx,\\N,2\ny,\\N,1\nx,\\N,1\n"
unfolding serde_json_on_literals is_utf8 chars digits escaped fields_text is_blank reserved_word query_faults
having_and_order-report = refl

-- SELECT MIN(d) FILTER (WHERE q > 100) AS a, AVG(q) FILTER (WHERE q > 100) AS b, COUNT(q) FILTER
-- (WHERE r IS NULL) AS c FROM lines
abbrev filters_of_nothing : Query
filters_of_nothing = select
    (item_as (over_those (aggregate.Min (codes "d"))
    (compare (value "q") op.Gt (literal (constant.Integer (pos 100))))) "a" ∷ item_as
    (over_those (aggregate.Avg (codes "q"))
    (compare (value "q") op.Gt (literal (constant.Integer (pos 100))))) "b" ∷ item_as
    (over_those (aggregate.Count (codes "q")) (null_test (value "r") false)) "c" ∷ []) []

filters_of_nothing-faults : query_faults columns filters_of_nothing ≡ []
unfolding serde_json_on_literals is_utf8 chars digits escaped fields_text is_blank reserved_word query_faults
filters_of_nothing-faults = refl

filters_of_nothing-report : report columns filters_of_nothing three_lines ≡ codes
    "a,b,c\n\\N,\\N,1\n"
unfolding serde_json_on_literals is_utf8 chars digits escaped fields_text is_blank reserved_word query_faults
filters_of_nothing-report = refl

-- SELECT SUM(q) AS s, SUM(q) FILTER (WHERE NOT q > 2) AS t FROM lines GROUP BY d ORDER BY SUM(q)
-- FILTER (WHERE NOT q > 2) NULLS FIRST
abbrev order_by_filter : Query
order_by_filter = record
    (select (item_as (over (aggregate.Sum (codes "q"))) "s" ∷ item_as
    (over_those (aggregate.Sum (codes "q"))
    (not_of (compare (value "q") op.Gt (literal (constant.Integer (pos 2)))))) "t" ∷ [])
    (set (codes "d" ∷ []) ∷ [])) {
      keys = sorted_by_key
          (over_those (aggregate.Sum (codes "q"))
          (not_of (compare (value "q") op.Gt (literal (constant.Integer (pos 2)))))) false true ∷ [];
    }

order_by_filter-faults : query_faults columns order_by_filter ≡ []
unfolding serde_json_on_literals is_utf8 chars digits escaped fields_text is_blank reserved_word query_faults
order_by_filter-faults = refl

order_by_filter-report : report columns order_by_filter three_lines ≡ codes "s,t\n\\N,\\N\n7,2\n"
unfolding serde_json_on_literals is_utf8 chars digits escaped fields_text is_blank reserved_word query_faults
order_by_filter-report = refl
