-- The grouping sets of queries, as their explanations list them.
use Rattle.std.proofs.Common.{◌≡◌, true, [], ◌∷◌, codes, refl}
use Rattle.std.specs.Fmt.{digits}
use Rattle.std.specs.Str.{is_utf8, chars}
use Rattle.serde_json.proofs.OnLiterals.{serde_json_on_literals}
use Rattle.csv.specs.Writing.{escaped, fields_text, is_blank}
use Rattle.semantics.specs.Explanation.{explanation}
use Rattle.semantics.specs.Faults.{query_faults}
use Rattle.semantics.specs.Syntax.{Query, name, set, rollup, cube, sets, element_forms}
use Rattle.semantics.specs.Words.{reserved_word}
use Rattle.semantics.proofs.examples.Given.{columns, select, item, item_as, over, count_rows}

-- SELECT r, d, COUNT(*) AS n FROM lines GROUP BY CUBE (d, r)
abbrev cube_of_two : Query
cube_of_two = select
    (item (name (codes "r")) ∷ item (name (codes "d")) ∷ item_as (over count_rows) "n" ∷ [])
    (cube ((codes "d" ∷ []) ∷ (codes "r" ∷ []) ∷ []) ∷ [])

cube_of_two-explained : explanation columns cube_of_two ≡ codes
    "SELECT r, d, COUNT(*) AS n FROM lines GROUP BY CUBE (d, r)\n0: (d, r)\n1: (d)\n2: (r)\n3: ()\n"
unfolding serde_json_on_literals is_utf8 chars digits escaped fields_text is_blank reserved_word query_faults
cube_of_two-explained = refl

-- SELECT COUNT(*) FROM lines GROUP BY GROUPING SETS (ROLLUP (d, r), CUBE (r), (d, d))
abbrev nested_sets : Query
nested_sets = select (item (over count_rows) ∷ [])
    (sets (element_forms
    (rollup ((codes "d" ∷ []) ∷ (codes "r" ∷ []) ∷ []) ∷ cube ((codes "r" ∷ []) ∷ []) ∷ set
    (codes "d" ∷ codes "d" ∷ []) ∷ [])) ∷ [])

nested_sets-explained : explanation columns nested_sets ≡ codes
    "SELECT COUNT(*) FROM lines GROUP BY GROUPING SETS (ROLLUP (d, r), CUBE (r), (d, d))\n0: (d, r)\n1: (d)\n2: ()\n3: (r)\n4: ()\n5: (d)\n"
unfolding serde_json_on_literals is_utf8 chars digits escaped fields_text is_blank reserved_word query_faults
nested_sets-explained = refl

-- SELECT COUNT(*) FROM lines GROUP BY DISTINCT GROUPING SETS ((d, r), (r, d), (), ())
abbrev sets_of_same_columns : Query
sets_of_same_columns = record
    (select (item (over count_rows) ∷ [])
    (sets (element_forms
    (set (codes "d" ∷ codes "r" ∷ []) ∷ set (codes "r" ∷ codes "d" ∷ []) ∷ set [] ∷ set [] ∷ []))
    ∷ [])) { distinct_sets = true }

sets_of_same_columns-explained : explanation columns sets_of_same_columns ≡ codes
    "SELECT COUNT(*) FROM lines GROUP BY DISTINCT GROUPING SETS ((d, r), (r, d), (), ())\n0: (d, r)\n1: ()\n"
unfolding serde_json_on_literals is_utf8 chars digits escaped fields_text is_blank reserved_word query_faults
sets_of_same_columns-explained = refl

-- SELECT COUNT(*) FROM lines GROUP BY CUBE (d, r, q)
abbrev cube_of_three : Query
cube_of_three = select (item (over count_rows) ∷ [])
    (cube ((codes "d" ∷ []) ∷ (codes "r" ∷ []) ∷ (codes "q" ∷ []) ∷ []) ∷ [])

cube_of_three-explained : explanation columns cube_of_three ≡ codes
    "SELECT COUNT(*) FROM lines GROUP BY CUBE (d, r, q)\n0: (d, r, q)\n1: (d, r)\n2: (d, q)\n3: (d)\n4: (r, q)\n5: (r)\n6: (q)\n7: ()\n"
unfolding serde_json_on_literals is_utf8 chars digits escaped fields_text is_blank reserved_word query_faults
cube_of_three-explained = refl

-- SELECT COUNT(*) FROM lines GROUP BY ROLLUP ((r, d), q), d
abbrev rollup_of_units : Query
rollup_of_units = select (item (over count_rows) ∷ [])
    (rollup ((codes "r" ∷ codes "d" ∷ []) ∷ (codes "q" ∷ []) ∷ []) ∷ set (codes "d" ∷ []) ∷ [])

rollup_of_units-explained : explanation columns rollup_of_units ≡ codes
    "SELECT COUNT(*) FROM lines GROUP BY ROLLUP ((r, d), q), d\n0: (r, d, q)\n1: (r, d)\n2: (d)\n"
unfolding serde_json_on_literals is_utf8 chars digits escaped fields_text is_blank reserved_word query_faults
rollup_of_units-explained = refl

-- SELECT COUNT(*) FROM lines GROUP BY ()
abbrev empty_set : Query
empty_set = select (item (over count_rows) ∷ []) (set [] ∷ [])

empty_set-explained : explanation columns empty_set ≡ codes
    "SELECT COUNT(*) FROM lines GROUP BY ()\n0: ()\n"
unfolding serde_json_on_literals is_utf8 chars digits escaped fields_text is_blank reserved_word query_faults
empty_set-explained = refl
