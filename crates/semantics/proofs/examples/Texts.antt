-- Canonical texts, and the brackets in them.
use Rattle.std.proofs.Common.{◌≡◌, pos, negsuc, true, false, [], ◌∷◌, codes, refl, Some}
use Rattle.std.specs.Fmt.{digits}
use Rattle.std.specs.Str.{is_utf8, chars}
use Rattle.serde_json.proofs.OnLiterals.{serde_json_on_literals}
use Rattle.csv.specs.Writing.{escaped, fields_text, is_blank}
use Rattle.semantics.specs.Canonical.{canonical_text}
use Rattle.semantics.specs.Faults.{query_faults}
use Rattle.semantics.specs.Syntax.{Query, name, literal, or_of, and_of, not_of, truth_test, compare, between, member, null_test, column, predicate_forms}
use Rattle.semantics.specs.Words.{reserved_word}
use Rattle.semantics.proofs.examples.Given.{select, item, item_as, over, value, sorted_by_key, count_rows}
use Rattle.semantics.specs.declared.comparison.Op.TheVariants as op
use Rattle.semantics.specs.declared.literal.Literal.TheVariants as constant
use Rattle.semantics.specs.declared.truth.Truth.TheVariants as truth

-- SELECT COUNT(*) FROM lines WHERE NOT d = 'it''s' OR q NOT IN (1, -2) AND r IS NULL IS UNKNOWN
abbrev negations : Query
negations = record (select (item (over count_rows) ∷ []) []) {
  where_condition = Some
      (or_of (predicate_forms
      ((not_of (compare (value "d") op.Eq (literal (constant.Text (codes "it's")))))
      ∷ (and_of (predicate_forms
      ((member (value "q") true (constant.Integer (pos 1) ∷ constant.Integer (negsuc 1) ∷ []))
      ∷ (truth_test (null_test (value "r") false) false truth.Unknown) ∷ []))) ∷ [])));
}

negations-text : canonical_text negations ≡ codes
    "SELECT COUNT(*) FROM lines WHERE NOT d = 'it''s' OR q NOT IN (1, -2) AND r IS NULL IS UNKNOWN"
unfolding serde_json_on_literals is_utf8 chars digits escaped fields_text is_blank reserved_word query_faults
negations-text = refl

-- SELECT COUNT(*) FROM lines WHERE a AND (a OR a) OR NOT (NOT a)
abbrev and_in_or : Query
and_in_or = record (select (item (over count_rows) ∷ []) []) {
  where_condition = Some
      (or_of (predicate_forms
      ((and_of (predicate_forms
      ((column (codes "a"))
      ∷ (or_of (predicate_forms ((column (codes "a")) ∷ (column (codes "a")) ∷ []))) ∷ [])))
      ∷ (not_of (not_of (column (codes "a")))) ∷ [])));
}

and_in_or-text : canonical_text and_in_or ≡ codes
    "SELECT COUNT(*) FROM lines WHERE a AND (a OR a) OR NOT (NOT a)"
unfolding serde_json_on_literals is_utf8 chars digits escaped fields_text is_blank reserved_word query_faults
and_in_or-text = refl

-- SELECT COUNT(*) FROM lines WHERE (a IS TRUE) IS FALSE
abbrev test_of_test : Query
test_of_test = record (select (item (over count_rows) ∷ []) []) {
  where_condition = Some
      (truth_test (truth_test (column (codes "a")) false truth.True) false truth.False);
}

test_of_test-text : canonical_text test_of_test ≡ codes
    "SELECT COUNT(*) FROM lines WHERE (a IS TRUE) IS FALSE"
unfolding serde_json_on_literals is_utf8 chars digits escaped fields_text is_blank reserved_word query_faults
test_of_test-text = refl

-- SELECT "select", COUNT(*) AS "a ""b" FROM lines ORDER BY "select", q DESC, q NULLS FIRST, q
-- DESC NULLS LAST
abbrev quoted_names : Query
quoted_names = record
    (select (item (name (codes "select")) ∷ item_as (over count_rows) "a \"b" ∷ []) []) {
      keys = sorted_by_key (name (codes "select")) false false ∷ sorted_by_key (name (codes "q"))
          true true ∷ sorted_by_key (name (codes "q")) false true ∷ sorted_by_key (name (codes "q"))
          true false ∷ [];
    }

quoted_names-text : canonical_text quoted_names ≡ codes
    "SELECT \"select\", COUNT(*) AS \"a \"\"b\" FROM lines ORDER BY \"select\", q DESC, q NULLS FIRST, q DESC NULLS LAST"
unfolding serde_json_on_literals is_utf8 chars digits escaped fields_text is_blank reserved_word query_faults
quoted_names-text = refl

-- SELECT COUNT(*) FROM lines WHERE NOT (a AND b) AND (a OR b) OR (a OR b) OR a = b IS NOT TRUE
-- AND (NOT a) IS UNKNOWN AND x NOT BETWEEN -1 AND 2
abbrev brackets : Query
brackets = record (select (item (over count_rows) ∷ []) []) {
  where_condition = Some
      (or_of (predicate_forms
      ((and_of (predicate_forms
      ((not_of (and_of (predicate_forms ((column (codes "a")) ∷ (column (codes "b")) ∷ []))))
      ∷ (or_of (predicate_forms ((column (codes "a")) ∷ (column (codes "b")) ∷ []))) ∷ [])))
      ∷ (or_of (predicate_forms ((column (codes "a")) ∷ (column (codes "b")) ∷ [])))
      ∷ (and_of (predicate_forms
      ((truth_test (compare (value "a") op.Eq (value "b")) true truth.True)
      ∷ (truth_test (not_of (column (codes "a"))) false truth.Unknown)
      ∷ (between (value "x") true (literal (constant.Integer (negsuc 0)))
      (literal (constant.Integer (pos 2)))) ∷ []))) ∷ [])));
}

brackets-text : canonical_text brackets ≡ codes
    "SELECT COUNT(*) FROM lines WHERE NOT (a AND b) AND (a OR b) OR (a OR b) OR a = b IS NOT TRUE AND (NOT a) IS UNKNOWN AND x NOT BETWEEN -1 AND 2"
unfolding serde_json_on_literals is_utf8 chars digits escaped fields_text is_blank reserved_word query_faults
brackets-text = refl
