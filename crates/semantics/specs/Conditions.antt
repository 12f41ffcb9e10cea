-- The truth value of a predicate, the records that WHERE keeps, and those that pass a FILTER
-- (ISO/IEC 9075-2, <search condition>, <where clause>, <filter clause>).
use Rattle.std.specs.Option.{option_and_then, option_map_or}
use Rattle.std.specs.Prelude.{Bool, true, false, List, [], ◌∷◌, map, fold, if◌then◌else◌, ℕ, Option, filter, slice_get, unwrap_or}
use Rattle.semantics.specs.Columns.{Field}
use Rattle.semantics.specs.Names.{place_of}
use Rattle.semantics.specs.Syntax.{Expression, Operand, Predicate, Predicates, name, expression, literal, or_of, and_of, not_of, truth_test, compare, between, member, null_test, column, no_parts, part, Query, grouping, function}
use Rattle.semantics.specs.Truth.{conjunction, disjunction, negation}
use Rattle.semantics.specs.Values.{Datum, boolean, whole, text, is_null, comparison, null}
use Rattle.semantics.specs.declared.comparison.Op.TheVariants.{Eq, Le, Ge}
use Rattle.semantics.specs.declared.literal.Literal.{Literal}
use Rattle.semantics.specs.declared.truth.Truth.{Truth}
use Rattle.semantics.specs.declared.truth.Truth.TheVariants.{True, Unknown, False}
use Rattle.semantics.specs.declared.literal.Literal.TheVariants as constant

-- ---- truth values

-- The truth value of a test that is never Unknown, such as p IS TRUE and x IS NULL (<boolean
-- test>, <null predicate>).
abbrev pub known_truth : Bool → Truth
known_truth b = if b then True else False

-- The truth value, negated if NOT is written.
abbrev pub with_not : Bool → Truth → Truth
with_not true t = negation t
with_not false t = t

-- p OR q OR .., from the left; False OR p is p.
abbrev pub any_of : List Truth → Truth
any_of ts = fold disjunction False ts

-- p AND q AND .., from the left; True AND p is p.
abbrev pub all_of : List Truth → Truth
all_of ts = fold conjunction True ts

-- Whether two truth values are the same.
abbrev pub same_truth : Truth → Truth → Bool
same_truth True True = true
same_truth Unknown Unknown = true
same_truth False False = true
same_truth t u = false

-- ---- atoms

-- x BETWEEN y AND z is x >= y AND x <= z (<between predicate>).
abbrev pub between_truth : Datum → Datum → Datum → Truth
between_truth x y z = conjunction (comparison Ge x y) (comparison Le x z)

-- x IN (a, b, ..) is x = a OR x = b OR .. (<in predicate>).
abbrev pub member_truth : Datum → List Datum → Truth
member_truth x values = any_of (map (comparison Eq x) values)

-- A bare name is true if its value is TRUE, false if it is FALSE and unknown if it is
-- NULL, as in x = TRUE.
abbrev pub value_truth : Datum → Truth
value_truth x = comparison Eq x (boolean true)

-- ---- predicates

-- The values of expressions.
abbrev pub Valuation : Type 0
Valuation = Expression → Datum

-- The value of a literal.
abbrev pub literal_value : Literal → Datum
literal_value (constant.Integer i) = whole i
literal_value (constant.Text t) = text t
literal_value (constant.Truth b) = boolean b

-- The value of an operand.
abbrev pub operand_value : Valuation → Operand → Datum
operand_value v (expression e) = v e
operand_value v (literal a) = literal_value a

abbrev mutual
  -- The truth value of a predicate, if expressions have these values.
  pub truth : Valuation → Predicate → Truth
  truth v (or_of ps) = any_of (truths v ps)
  truth v (and_of ps) = all_of (truths v ps)
  truth v (not_of p) = negation (truth v p)
  truth v (truth_test p n t) = with_not n (known_truth (same_truth (truth v p) t))
  truth v (compare x o y) = comparison o (operand_value v x) (operand_value v y)
  truth v (between x n y z) =
      with_not n (between_truth (operand_value v x) (operand_value v y) (operand_value v z))
  truth v (member x n ls) = with_not n (member_truth (operand_value v x) (map literal_value ls))
  truth v (null_test x n) = with_not n (known_truth (is_null (operand_value v x)))
  truth v (column n) = value_truth (v (name n))

  -- Those of the parts of an OR or an AND.
  pub truths : Valuation → Predicates → List Truth
  truths v no_parts = []
  truths v (part p ps) = truth v p ∷ truths v ps

-- The value of the column of a name in a record, NULL if there is no such column.
abbrev pub column_value : List Field → List Datum → List ℕ → Datum
column_value fields values n =
    unwrap_or (option_and_then (slice_get values) (place_of fields n)) null

-- In WHERE a name is the record's value of its column. No GROUPING and no set function may stand
-- there.
abbrev pub record_value : List Field → List Datum → Valuation
record_value fields values (name n) = column_value fields values n
record_value fields values (grouping ns) = null
record_value fields values (function f) = null

-- The truth value of a WHERE or of a FILTER for a record; names are columns in both. It is True
-- if the clause is not written.
abbrev pub where_truth : List Field → Option Predicate → List Datum → Truth
where_truth fields p values = option_map_or (truth (record_value fields values)) p True

-- Whether a record is kept: if the predicate is True, not if it is False or Unknown.
abbrev pub is_kept : List Field → Query → List Datum → Bool
is_kept fields q values = same_truth (where_truth fields q.where_condition values) True

-- The records that are kept.
abbrev pub kept_records : List Field → Query → List (List Datum) → List (List Datum)
kept_records fields q records = filter (is_kept fields q) records

-- ---- FILTER (ISO/IEC 9075-2, <filter clause>)

-- Whether a record passes a FILTER of this predicate: if it is True, not if it is False or
-- Unknown.
abbrev pub passes : List Field → Predicate → List Datum → Bool
passes fields p values = same_truth (truth (record_value fields values) p) True
