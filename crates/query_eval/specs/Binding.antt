-- What is made of a predicate whose names are resolved.
use Rattle.std.specs.Prelude.{◌≡◌, ℕ, ⊤, Bool, true, Option, Some, None, List, ◌∷◌, length, []}
use Rattle.semantics.specs.declared.kind.Kind.{Kind}
use Rattle.semantics.specs.declared.truth.Truth.{Truth}
use Rattle.semantics.specs.declared.truth.Truth.TheVariants.{True}
use Rattle.semantics.specs.Values.{Datum}
use Rattle.semantics.specs.Records.{Fits}
use Rattle.semantics.specs.Columns.{Field}
use Rattle.semantics.specs.Syntax.{Expression, Operand, Predicate, expression}
use Rattle.semantics.specs.Types.{expression_kind}
use Rattle.query_typecheck.specs.declared.scope.Clause.{Clause}
use Rattle.query_typecheck.specs.declared.scope.Clause.TheVariants as clause
use Rattle.query_typecheck.specs.Typing.{IsTypedExpression, IsTypedPredicate, IsTypedClause}
use Rattle.query_eval.specs.declared.condition.OperandSource.{OperandSource}
use Rattle.query_eval.specs.declared.condition.Condition.{Condition}
use Rattle.semantics.specs.Conditions.{Valuation, operand_value, truth, where_truth}
use Rattle.query_eval.specs.Meaning.{condition_truth, is_of, is_safe, is_there, source_value}

-- ---- under a scope

-- What the expressions of a clause stand for: the columns under which they are typed, the clause,
-- how many values there are, and the value of each expression where these are the values.
pub record ScopeForm : Type 0 where
  pub fields : List Field
  pub clause : Clause
  pub count : ℕ
  pub value : List Datum → Valuation

-- Values are those of a scope where there are as many as it has, and each expression that is typed
-- in its clause has a value of its type, or NULL.
pub record AreValuesOf (scope : ScopeForm) (values : List Datum) : Type 0 where
  pub count : length values ≡ scope.count
  pub kinds : (grouped : List ℕ) (e : Expression) (k : Kind) → IsTypedExpression scope.fields grouped scope.clause e → expression_kind scope.fields e ≡ Some k
      → is_of k (scope.value values e) ≡ true

-- a source has the value of an operand, and it is there
pub record GivesOperand (scope : ScopeForm) (x : Operand) (s : OperandSource) : Type 0 where
  pub value : (values : List Datum) → source_value values s ≡ operand_value (scope.value values) x
  pub there : (values : List Datum) → length values ≡ scope.count → is_there values s ≡ true

-- a source has the value of an expression, and it is there
abbrev pub GivesExpression : ScopeForm → Expression → OperandSource → Type 0
GivesExpression scope e s = GivesOperand scope (expression e) s

-- a condition is worth what the predicate is worth
abbrev pub GivesPredicate : ScopeForm → Predicate → Condition → Type 0
GivesPredicate scope p c = (values : List Datum) → condition_truth c values ≡ truth (scope.value values) p

-- Where a predicate is typed in the clause, its condition can be evaluated.
abbrev pub IsSafeWhereTyped : ScopeForm → Predicate → Condition → Type 0
IsSafeWhereTyped scope p c =
    (grouped : List ℕ) → IsTypedPredicate scope.fields grouped scope.clause p → (values : List Datum) → AreValuesOf scope values → is_safe c values ≡ true

-- ---- WHERE and FILTER

-- For each record that fits the columns.
abbrev pub ForEachRecord : List Field → (List Datum → Type 0) → Type 0
ForEachRecord fields P = (values : List Datum) → Fits fields values → P values

-- What the condition of a WHERE is worth, and whether it can be evaluated; without WHERE there is
-- none, and it is True
abbrev pub bound_truth : Option Condition → List Datum → Truth
bound_truth None values = True
bound_truth (Some c) values = condition_truth c values

abbrev pub bound_safe : Option Condition → List Datum → Bool
bound_safe None values = true
bound_safe (Some c) values = is_safe c values

-- A condition is that of a WHERE, which may not be written: it is worth what WHERE is worth, and
-- where that is typed it can be evaluated for each record.
pub record IsConditionOf (fields : List Field) (p : Option Predicate) (c : Option Condition) : Type 0 where
  pub worth : (values : List Datum) → bound_truth c values ≡ where_truth fields p values
  pub safe : (grouped : List ℕ) → IsTypedClause fields grouped clause.Where p → ForEachRecord fields (λ values. bound_safe c values ≡ true)

-- Conditions are those of filters, one of each: each is worth what its filter is worth, and where
-- that is typed as in WHERE it can be evaluated for each record.
abbrev pub AreConditionsOf : List Field → List Predicate → List Condition → Type 0
AreConditionsOf fields [] [] = ⊤
AreConditionsOf fields (p ∷ ps) (c ∷ cs) = IsConditionOf fields (Some p) (Some c) × AreConditionsOf fields ps cs
AreConditionsOf fields ps cs = ⊥
