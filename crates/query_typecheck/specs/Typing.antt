-- Which queries are typed under a schema (ISO/IEC 9075-2, <query specification>).
use Rattle.std.specs.Prelude.{◌≡◌, ◌≢◌, ◌≤◌, ℕ, ⊤, Bool, true, false, not, Option, Some, None, List, ◌∷◌, map, length, All, AllPairs, Contains, IsSome, IsSomeAnd, IsTrue, []}
use Rattle.semantics.specs.declared.kind.Kind.{Kind}
use Rattle.semantics.specs.declared.kind.Kind.TheVariants as kind
use Rattle.semantics.specs.Columns.{Field}
use Rattle.semantics.specs.declared.aggregate.Aggregate.{Aggregate}
use Rattle.semantics.specs.declared.aggregate.Aggregate.TheVariants as aggregate
use Rattle.semantics.specs.Syntax.{Expression, SetFunction, Operand, Predicate, Predicates, Query, name, grouping, function, over_all, over_filtered, expression, literal, or_of, and_of, not_of, truth_test, compare, between, member, null_test, column, no_parts, part}
use Rattle.semantics.specs.Canonical.{header_text}
use Rattle.query_typecheck.specs.declared.scope.Clause.{Clause}
use Rattle.query_typecheck.specs.declared.scope.Clause.TheVariants as clause
use Rattle.semantics.specs.Names.{column_kind, place_of}
use Rattle.semantics.specs.Sets.{expansion, grouping_names, grouping_places}
use Rattle.semantics.specs.SetFunctions.{functions_of}
use Rattle.semantics.specs.Types.{is_average, literal_kind, operand_kind, key_expression}
use Rattle.semantics.specs.Limits.{most_grouping_sets, most_set_functions}

-- ---- names

-- The schema has a column of this name.
abbrev pub IsColumn : List Field → List ℕ → Type 0
IsColumn fields n = IsSome (place_of fields n)

-- The column of this name is a grouping column.
abbrev pub IsGrouped : List Field → List ℕ → List ℕ → Type 0
IsGrouped fields grouped n = IsSomeAnd (place_of fields n) (λ place. Contains grouped place)

-- In WHERE a name is any column; in every other clause it is a grouping column.
abbrev pub IsTypedName : List Field → List ℕ → Clause → List ℕ → Type 0
IsTypedName fields grouped clause.Where n = IsColumn fields n
IsTypedName fields grouped clause.Select n = IsGrouped fields grouped n
IsTypedName fields grouped clause.Having n = IsGrouped fields grouped n
IsTypedName fields grouped clause.OrderBy n = IsGrouped fields grouped n

-- ---- functions

-- Whether the column of this name has the type.
abbrev pub HasKind : List Field → Kind → List ℕ → Type 0
HasKind fields k n = column_kind fields n ≡ Some k

-- The name of the column that a set function is taken of; COUNT(*) has none.
abbrev pub argument_names : Aggregate → List (List ℕ)
argument_names aggregate.CountRows = []
argument_names (aggregate.Count x) = x ∷ []
argument_names (aggregate.CountDistinct x) = x ∷ []
argument_names (aggregate.Sum x) = x ∷ []
argument_names (aggregate.Min x) = x ∷ []
argument_names (aggregate.Max x) = x ∷ []
argument_names (aggregate.Avg x) = x ∷ []

-- The types that a set function takes: COUNT each, SUM and AVG whole numbers, MIN and MAX whole
-- numbers and texts.
abbrev pub takes : Aggregate → List Kind
takes aggregate.CountRows = kind.Int ∷ kind.Text ∷ kind.Bool ∷ []
takes (aggregate.Count x) = kind.Int ∷ kind.Text ∷ kind.Bool ∷ []
takes (aggregate.CountDistinct x) = kind.Int ∷ kind.Text ∷ kind.Bool ∷ []
takes (aggregate.Sum x) = kind.Int ∷ []
takes (aggregate.Min x) = kind.Int ∷ kind.Text ∷ []
takes (aggregate.Max x) = kind.Int ∷ kind.Text ∷ []
takes (aggregate.Avg x) = kind.Int ∷ []

-- The schema has a column of this name, which is of one of these types.
abbrev pub IsOfKinds : List Field → List Kind → List ℕ → Type 0
IsOfKinds fields kinds n = IsSomeAnd (column_kind fields n) (Contains kinds)

-- The column of a set function is of a type that it takes.
abbrev pub IsTypedAggregate : List Field → Aggregate → Type 0
IsTypedAggregate fields a = All (IsOfKinds fields (takes a)) (argument_names a)

-- Whether a set function may stand in a clause: none in WHERE, and AVG only in SELECT.
abbrev pub may_stand : Clause → Aggregate → Bool
may_stand clause.Where a = false
may_stand clause.Select a = true
may_stand clause.Having a = not (is_average a)
may_stand clause.OrderBy a = not (is_average a)

-- ---- expressions

-- GROUPING takes grouping columns, and may not stand in WHERE.
abbrev pub IsTypedGrouping : List Field → List ℕ → Clause → List (List ℕ) → Type 0
IsTypedGrouping fields grouped clause.Where ns = ⊥
IsTypedGrouping fields grouped clause.Select ns = All (IsGrouped fields grouped) ns
IsTypedGrouping fields grouped clause.Having ns = All (IsGrouped fields grouped) ns
IsTypedGrouping fields grouped clause.OrderBy ns = All (IsGrouped fields grouped) ns

-- ---- operands

-- Two operands are of one type.
abbrev pub IsOfOneKind : Option Kind → Option Kind → Type 0
IsOfOneKind k l = (one : Kind) × (k ≡ Some one) × (l ≡ Some one)

-- ---- expressions and predicates

abbrev mutual
  -- An expression is typed in a clause where its name, its GROUPING or its set function is.
  pub IsTypedExpression : List Field → List ℕ → Clause → Expression → Type 0
  IsTypedExpression fields grouped c (name n) = IsTypedName fields grouped c n
  IsTypedExpression fields grouped c (grouping ns) = IsTypedGrouping fields grouped c ns
  IsTypedExpression fields grouped c (function f) = IsTypedFunction fields c f

  -- A set function is typed where it may stand and takes its column. Its FILTER is typed as WHERE
  -- is, in whichever clause the function stands: names are columns, and no set function and no
  -- GROUPING may stand there.
  pub IsTypedFunction : List Field → Clause → SetFunction → Type 0
  IsTypedFunction fields c (over_all a) = IsTrue (may_stand c a) × IsTypedAggregate fields a
  IsTypedFunction fields c (over_filtered a p) = IsTrue (may_stand c a) × IsTypedAggregate fields a × IsTypedPredicate fields [] clause.Where p

  -- An operand is typed where its expression is; a literal always is.
  pub IsTypedOperand : List Field → List ℕ → Clause → Operand → Type 0
  IsTypedOperand fields grouped c (expression e) = IsTypedExpression fields grouped c e
  IsTypedOperand fields grouped c (literal a) = ⊤

  -- In comparisons, BETWEEN and IN all operands and literals are of one type; IS NULL takes any
  -- operand; a bare name is a column of truth values.
  pub IsTypedPredicate : List Field → List ℕ → Clause → Predicate → Type 0
  IsTypedPredicate fields grouped c (or_of ps) = AreTypedParts fields grouped c ps
  IsTypedPredicate fields grouped c (and_of ps) = AreTypedParts fields grouped c ps
  IsTypedPredicate fields grouped c (not_of p) = IsTypedPredicate fields grouped c p
  IsTypedPredicate fields grouped c (truth_test p n t) = IsTypedPredicate fields grouped c p
  IsTypedPredicate fields grouped c (compare x o y) =
      IsTypedOperand fields grouped c x × IsTypedOperand fields grouped c y
      × IsOfOneKind (operand_kind fields x) (operand_kind fields y)
  IsTypedPredicate fields grouped c (between x n y z) =
      IsTypedOperand fields grouped c x × IsTypedOperand fields grouped c y × IsTypedOperand fields grouped c z
      × IsOfOneKind (operand_kind fields x) (operand_kind fields y) × IsOfOneKind (operand_kind fields x) (operand_kind fields z)
  IsTypedPredicate fields grouped c (member x n ls) =
      IsTypedOperand fields grouped c x × All (λ a. IsOfOneKind (operand_kind fields x) (Some (literal_kind a))) ls
  IsTypedPredicate fields grouped c (null_test x n) = IsTypedOperand fields grouped c x
  IsTypedPredicate fields grouped c (column n) = IsTypedName fields grouped c n × HasKind fields kind.Bool n

  -- All parts of an OR or an AND are typed.
  pub AreTypedParts : List Field → List ℕ → Clause → Predicates → Type 0
  AreTypedParts fields grouped c no_parts = ⊤
  AreTypedParts fields grouped c (part p ps) = IsTypedPredicate fields grouped c p × AreTypedParts fields grouped c ps

-- ---- the query

-- A clause of a predicate is typed where the predicate is, if it is written.
abbrev pub IsTypedClause : List Field → List ℕ → Clause → Option Predicate → Type 0
IsTypedClause fields grouped c None = ⊤
IsTypedClause fields grouped c (Some p) = IsTypedPredicate fields grouped c p

-- A query is typed under a schema where each of its clauses is: names are columns, or grouping
-- columns where only these may stand, types agree, and functions stand where they may. It has at
-- most 256 expanded grouping sets and at most 64 different set functions, and the headers of its
-- items differ.
pub record IsTyped (fields : List Field) (t : Query) : Type 0 where
  pub where_condition : IsTypedClause fields (grouping_places fields t) clause.Where t.where_condition
  pub groups : All (IsColumn fields) (grouping_names t)
  pub few_sets : length (expansion t.groups) ≤ most_grouping_sets
  pub items : All (λ i. IsTypedExpression fields (grouping_places fields t) clause.Select i.expression) t.items
  pub headers_differ : AllPairs (λ h g. h ≢ g) (map header_text t.items)
  pub having_condition : IsTypedClause fields (grouping_places fields t) clause.Having t.having_condition
  pub keys : All (λ k. IsTypedExpression fields (grouping_places fields t) clause.OrderBy (key_expression t.items k.expression)) t.keys
  pub few_functions : length (functions_of fields t) ≤ most_set_functions
