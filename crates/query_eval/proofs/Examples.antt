-- The definitions, computed on examples.
use Rattle.std.proofs.Common.{◌≡◌, true, false, Some, List, [], ◌∷◌, map, pos, refl, codes}
use Rattle.semantics.specs.declared.comparison.Op.TheVariants.{Eq, Gt}
use Rattle.semantics.specs.declared.kind.Kind.TheVariants as kind
use Rattle.semantics.specs.declared.truth.Truth.{Truth}
use Rattle.semantics.specs.declared.truth.Truth.TheVariants.{True, Unknown, False}
use Rattle.semantics.specs.Values.{Datum, boolean, whole, null}
use Rattle.semantics.specs.Columns.{Field}
use Rattle.semantics.specs.declared.literal.Literal.TheVariants as constant
use Rattle.semantics.specs.Syntax.{Operand, Predicate, name, expression, literal, or_of, and_of, not_of, truth_test, compare, between, member, column, no_parts, part}
use Rattle.semantics.specs.Conditions.{passes, where_truth}

abbrev fields : List Field
fields = record { name = codes "a"; kind = kind.Bool } ∷ record { name = codes "q"; kind = kind.Int } ∷ []

-- true and 1, false and 2, NULL and 3, true and NULL
abbrev records : List (List Datum)
records = (boolean true ∷ whole (pos 1) ∷ []) ∷ (boolean false ∷ whole (pos 2) ∷ []) ∷ (null ∷ whole (pos 3) ∷ []) ∷ (boolean true ∷ null ∷ []) ∷ []

abbrev worth : Predicate → List Truth
worth p = map (λ values. where_truth fields (Some p) values) records

abbrev a : Predicate
a = column (codes "a")

abbrev value_of_a : Operand
value_of_a = expression (name (codes "a"))

abbrev value_of_q : Operand
value_of_q = expression (name (codes "q"))

-- a
bare : worth a ≡ True ∷ False ∷ Unknown ∷ True ∷ []
bare = refl

-- NOT a
negated : worth (not_of a) ≡ False ∷ True ∷ Unknown ∷ False ∷ []
negated = refl

-- a IS UNKNOWN
unknown : worth (truth_test a false Unknown) ≡ False ∷ False ∷ True ∷ False ∷ []
unknown = refl

-- a IS NOT TRUE
not_true : worth (truth_test a true True) ≡ False ∷ True ∷ True ∷ False ∷ []
not_true = refl

-- NOT a IS TRUE
not_is_true : worth (not_of (truth_test a false True)) ≡ False ∷ True ∷ True ∷ False ∷ []
not_is_true = refl

-- q BETWEEN 2 AND 1 OR a
between_or : worth (or_of (part (between value_of_q false (literal (constant.Integer (pos 2))) (literal (constant.Integer (pos 1)))) (part a no_parts)))
    ≡ True ∷ False ∷ Unknown ∷ True ∷ []
between_or = refl

-- q NOT IN (1) AND a IS NOT FALSE
not_in : worth (and_of (part (member value_of_q true (constant.Integer (pos 1) ∷ [])) (part (truth_test a true False) no_parts)))
    ≡ False ∷ False ∷ True ∷ Unknown ∷ []
not_in = refl

-- a = FALSE OR a > FALSE
compared : worth (or_of (part (compare value_of_a Eq (literal (constant.Truth false))) (part (compare value_of_a Gt (literal (constant.Truth false))) no_parts)))
    ≡ True ∷ True ∷ Unknown ∷ True ∷ []
compared = refl

-- FILTER (WHERE a): what is unknown does not pass
passed : map (passes fields a) records ≡ true ∷ false ∷ false ∷ true ∷ []
passed = refl
