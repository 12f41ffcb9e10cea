-- Whether two set functions are the same. Nobody has to read this file: `same_function_law` and
-- `same_predicate_law` say of it that they are if they are equal.
use lib.Pointwise.{pointwise}
use mathlib.Core.Bool.{beq}
use Rattle.std.specs.Prelude.{ℕ, Bool, true, false, ◌&&◌, Option, Some, None}
use Rattle.std.specs.Str.{bytes_eq}
use Rattle.semantics.specs.Names.{PlannedFunction}
use Rattle.semantics.specs.Syntax.{Expression, SetFunction, Operand, Predicate, Predicates, name, grouping, function, over_all, over_filtered, expression, literal, or_of, and_of, not_of, truth_test, compare, between, member, null_test, column, no_parts, part}
use Rattle.semantics.specs.contracts.aggregate.AggregatePartialEq.TheImpl as aggregate
use Rattle.semantics.specs.contracts.comparison.OpPartialEq.TheImpl as op
use Rattle.semantics.specs.contracts.function.ColumnFunctionPartialEq.TheImpl as column_function
use Rattle.semantics.specs.contracts.literal.LiteralPartialEq.TheImpl as literal_equality
use Rattle.semantics.specs.contracts.truth.TruthPartialEq.TheImpl as truth

-- ---- trees

abbrev mutual
  -- Two predicates are the same, part by part.
  pub same_predicate : Predicate → Predicate → Bool
  same_predicate (or_of ps) (or_of qs) = same_parts ps qs
  same_predicate (and_of ps) (and_of qs) = same_parts ps qs
  same_predicate (not_of p) (not_of q) = same_predicate p q
  same_predicate (truth_test p n t) (truth_test q m u) =
      same_predicate p q && (beq n m && truth.eq-value.it t u)
  same_predicate (compare x o y) (compare z r w) =
      same_operand x z && (op.eq-value.it o r && same_operand y w)
  same_predicate (between x n y z) (between u m v w) =
      same_operand x u && (beq n m && (same_operand y v && same_operand z w))
  same_predicate (member x n ls) (member y m rs) =
      same_operand x y && (beq n m && pointwise literal_equality.eq-value.it ls rs)
  same_predicate (null_test x n) (null_test y m) = same_operand x y && beq n m
  same_predicate (column n) (column m) = bytes_eq n m
  same_predicate p q = false

  -- Two lists of parts are the same.
  pub same_parts : Predicates → Predicates → Bool
  same_parts no_parts no_parts = true
  same_parts (part p ps) (part q qs) = same_predicate p q && same_parts ps qs
  same_parts ps qs = false

  -- Two operands are the same.
  pub same_operand : Operand → Operand → Bool
  same_operand (expression e) (expression d) = same_expression e d
  same_operand (literal a) (literal b) = literal_equality.eq-value.it a b
  same_operand x y = false

  -- Two expressions are the same.
  pub same_expression : Expression → Expression → Bool
  same_expression (name n) (name m) = bytes_eq n m
  same_expression (grouping ns) (grouping ms) = pointwise bytes_eq ns ms
  same_expression (function f) (function g) = same_set_function f g
  same_expression e d = false

  -- Two set functions are the same, with their FILTERs.
  pub same_set_function : SetFunction → SetFunction → Bool
  same_set_function (over_all a) (over_all b) = aggregate.eq-value.it a b
  same_set_function (over_filtered a p) (over_filtered b q) =
      aggregate.eq-value.it a b && same_predicate p q
  same_set_function f g = false

-- Filters are the same if their trees are equal; a function without one has another filter than
-- each function with one.
abbrev pub same_filter : Option Predicate → Option Predicate → Bool
same_filter None None = true
same_filter (Some p) (Some q) = same_predicate p q
same_filter o r = false

-- Two set functions are the same if the function, DISTINCT, the column and the filter are.
abbrev pub same_planned : PlannedFunction → PlannedFunction → Bool
same_planned f g =
    column_function.eq-value.it f.function g.function && same_filter f.filter g.filter
