-- Reports of queries with a WHERE over values of which some are NULL.
use Rattle.std.proofs.Common.{◌≡◌, pos, true, false, [], ◌∷◌, codes, refl, Some}
use Rattle.std.specs.Fmt.{digits}
use Rattle.std.specs.Str.{is_utf8, chars}
use Rattle.serde_json.proofs.OnLiterals.{serde_json_on_literals}
use Rattle.csv.specs.Writing.{escaped, fields_text, is_blank}
use Rattle.semantics.specs.Faults.{query_faults}
use Rattle.semantics.specs.Run.{report}
use Rattle.semantics.specs.Syntax.{Query, literal, or_of, and_of, not_of, truth_test, compare, between, member, column, predicate_forms}
use Rattle.semantics.specs.Words.{reserved_word}
use Rattle.semantics.proofs.examples.Given.{columns, truth_columns, three_lines, truth_lines, select, item_as, over, value, count_rows}
use Rattle.semantics.specs.declared.comparison.Op.TheVariants as op
use Rattle.semantics.specs.declared.literal.Literal.TheVariants as constant
use Rattle.semantics.specs.declared.truth.Truth.TheVariants as truth

-- SELECT COUNT(*) AS n FROM lines WHERE q > 1
abbrev where_greater : Query
where_greater = record (select (item_as (over count_rows) "n" ∷ []) [])
    { where_condition = Some (compare (value "q") op.Gt (literal (constant.Integer (pos 1)))) }

where_greater-faults : query_faults columns where_greater ≡ []
unfolding serde_json_on_literals is_utf8 chars digits escaped fields_text is_blank reserved_word query_faults
where_greater-faults = refl

where_greater-report : report columns where_greater three_lines ≡ codes "n\n2\n"
unfolding serde_json_on_literals is_utf8 chars digits escaped fields_text is_blank reserved_word query_faults
where_greater-report = refl

-- SELECT COUNT(*) AS n FROM lines WHERE q NOT IN (5)
abbrev where_not_in : Query
where_not_in = record (select (item_as (over count_rows) "n" ∷ []) [])
    { where_condition = Some (member (value "q") true (constant.Integer (pos 5) ∷ [])) }

where_not_in-faults : query_faults columns where_not_in ≡ []
unfolding serde_json_on_literals is_utf8 chars digits escaped fields_text is_blank reserved_word query_faults
where_not_in-faults = refl

where_not_in-report : report columns where_not_in three_lines ≡ codes "n\n1\n"
unfolding serde_json_on_literals is_utf8 chars digits escaped fields_text is_blank reserved_word query_faults
where_not_in-report = refl

-- SELECT COUNT(*) AS n FROM lines WHERE a
abbrev where_column : Query
where_column = record (select (item_as (over count_rows) "n" ∷ []) [])
    { where_condition = Some (column (codes "a")) }

where_column-faults : query_faults truth_columns where_column ≡ []
unfolding serde_json_on_literals is_utf8 chars digits escaped fields_text is_blank reserved_word query_faults
where_column-faults = refl

where_column-report : report truth_columns where_column truth_lines ≡ codes "n\n2\n"
unfolding serde_json_on_literals is_utf8 chars digits escaped fields_text is_blank reserved_word query_faults
where_column-report = refl

-- SELECT COUNT(*) AS n FROM lines WHERE NOT a
abbrev where_not : Query
where_not = record (select (item_as (over count_rows) "n" ∷ []) [])
    { where_condition = Some (not_of (column (codes "a"))) }

where_not-faults : query_faults truth_columns where_not ≡ []
unfolding serde_json_on_literals is_utf8 chars digits escaped fields_text is_blank reserved_word query_faults
where_not-faults = refl

where_not-report : report truth_columns where_not truth_lines ≡ codes "n\n1\n"
unfolding serde_json_on_literals is_utf8 chars digits escaped fields_text is_blank reserved_word query_faults
where_not-report = refl

-- SELECT COUNT(*) AS n FROM lines WHERE a IS UNKNOWN
abbrev where_unknown : Query
where_unknown = record (select (item_as (over count_rows) "n" ∷ []) [])
    { where_condition = Some (truth_test (column (codes "a")) false truth.Unknown) }

where_unknown-faults : query_faults truth_columns where_unknown ≡ []
unfolding serde_json_on_literals is_utf8 chars digits escaped fields_text is_blank reserved_word query_faults
where_unknown-faults = refl

where_unknown-report : report truth_columns where_unknown truth_lines ≡ codes "n\n1\n"
unfolding serde_json_on_literals is_utf8 chars digits escaped fields_text is_blank reserved_word query_faults
where_unknown-report = refl

-- SELECT COUNT(*) AS n FROM lines WHERE a IS NOT TRUE
abbrev where_is_not_true : Query
where_is_not_true = record (select (item_as (over count_rows) "n" ∷ []) [])
    { where_condition = Some (truth_test (column (codes "a")) true truth.True) }

where_is_not_true-faults : query_faults truth_columns where_is_not_true ≡ []
unfolding serde_json_on_literals is_utf8 chars digits escaped fields_text is_blank reserved_word query_faults
where_is_not_true-faults = refl

where_is_not_true-report : report truth_columns where_is_not_true truth_lines ≡ codes "n\n2\n"
unfolding serde_json_on_literals is_utf8 chars digits escaped fields_text is_blank reserved_word query_faults
where_is_not_true-report = refl

-- SELECT COUNT(*) AS n FROM lines WHERE NOT a IS TRUE
abbrev where_not_is_true : Query
where_not_is_true = record (select (item_as (over count_rows) "n" ∷ []) [])
    { where_condition = Some (not_of (truth_test (column (codes "a")) false truth.True)) }

where_not_is_true-faults : query_faults truth_columns where_not_is_true ≡ []
unfolding serde_json_on_literals is_utf8 chars digits escaped fields_text is_blank reserved_word query_faults
where_not_is_true-faults = refl

where_not_is_true-report : report truth_columns where_not_is_true truth_lines ≡ codes "n\n2\n"
unfolding serde_json_on_literals is_utf8 chars digits escaped fields_text is_blank reserved_word query_faults
where_not_is_true-report = refl

-- SELECT COUNT(*) AS n FROM lines WHERE q BETWEEN 2 AND 1 OR a
abbrev where_between_or : Query
where_between_or = record (select (item_as (over count_rows) "n" ∷ []) []) {
  where_condition = Some
      (or_of (predicate_forms
      ((between (value "q") false (literal (constant.Integer (pos 2)))
      (literal (constant.Integer (pos 1)))) ∷ (column (codes "a")) ∷ [])));
}

where_between_or-faults : query_faults truth_columns where_between_or ≡ []
unfolding serde_json_on_literals is_utf8 chars digits escaped fields_text is_blank reserved_word query_faults
where_between_or-faults = refl

where_between_or-report : report truth_columns where_between_or truth_lines ≡ codes "n\n2\n"
unfolding serde_json_on_literals is_utf8 chars digits escaped fields_text is_blank reserved_word query_faults
where_between_or-report = refl

-- SELECT COUNT(*) AS n FROM lines WHERE q NOT IN (1) AND a IS NOT FALSE
abbrev where_not_in_and : Query
where_not_in_and = record (select (item_as (over count_rows) "n" ∷ []) []) {
  where_condition = Some
      (and_of (predicate_forms
      ((member (value "q") true (constant.Integer (pos 1) ∷ []))
      ∷ (truth_test (column (codes "a")) true truth.False) ∷ [])));
}

where_not_in_and-faults : query_faults truth_columns where_not_in_and ≡ []
unfolding serde_json_on_literals is_utf8 chars digits escaped fields_text is_blank reserved_word query_faults
where_not_in_and-faults = refl

where_not_in_and-report : report truth_columns where_not_in_and truth_lines ≡ codes "n\n1\n"
unfolding serde_json_on_literals is_utf8 chars digits escaped fields_text is_blank reserved_word query_faults
where_not_in_and-report = refl

-- SELECT COUNT(*) AS n FROM lines WHERE a = FALSE OR a > FALSE
abbrev where_above_false : Query
where_above_false = record (select (item_as (over count_rows) "n" ∷ []) []) {
  where_condition = Some
      (or_of (predicate_forms
      ((compare (value "a") op.Eq (literal (constant.Truth false)))
      ∷ (compare (value "a") op.Gt (literal (constant.Truth false))) ∷ [])));
}

where_above_false-faults : query_faults truth_columns where_above_false ≡ []
unfolding serde_json_on_literals is_utf8 chars digits escaped fields_text is_blank reserved_word query_faults
where_above_false-faults = refl

where_above_false-report : report truth_columns where_above_false truth_lines ≡ codes "n\n3\n"
unfolding serde_json_on_literals is_utf8 chars digits escaped fields_text is_blank reserved_word query_faults
where_above_false-report = refl

-- SELECT COUNT(*) AS n FROM lines WHERE r IN ('n', 'm') IS UNKNOWN
abbrev in_is_unknown : Query
in_is_unknown = record (select (item_as (over count_rows) "n" ∷ []) []) {
  where_condition = Some
      (truth_test (member (value "r") false
      (constant.Text (codes "n") ∷ constant.Text (codes "m") ∷ [])) false truth.Unknown);
}

in_is_unknown-faults : query_faults columns in_is_unknown ≡ []
unfolding serde_json_on_literals is_utf8 chars digits escaped fields_text is_blank reserved_word query_faults
in_is_unknown-faults = refl

in_is_unknown-report : report columns in_is_unknown three_lines ≡ codes "n\n1\n"
unfolding serde_json_on_literals is_utf8 chars digits escaped fields_text is_blank reserved_word query_faults
in_is_unknown-report = refl
