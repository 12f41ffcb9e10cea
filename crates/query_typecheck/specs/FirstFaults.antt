-- The first fault of a query that is not typed, as the code finds it: the first of `query_faults`
-- of Faults.
use Rattle.std.specs.Prelude.{◌≡◌, ◌≢◌, Result, MatchResult, ℕ, ◌==◌, nat_lt, Bool, false, not, Option, Some, None, List, ◌∷◌, ◌++◌, map, length, take, is_some, if◌then◌else◌, All, []}
use Rattle.std.specs.List.{enumerate_from, list_any}
use Rattle.std.specs.Option.{option_map_or, option_or}
use Rattle.std.specs.Str.{bytes_eq}
use Rattle.semantics.specs.declared.kind.Kind.{Kind}
use Rattle.semantics.specs.declared.kind.Kind.TheVariants as kind
use Rattle.semantics.specs.Columns.{Field}
use Rattle.semantics.specs.declared.aggregate.Aggregate.{Aggregate}
use Rattle.semantics.specs.declared.literal.Literal.{Literal}
use Rattle.semantics.specs.Syntax.{Expression, SetFunction, Operand, Predicate, Predicates, Query, name, grouping, function, over_all, over_filtered, expression, literal, or_of, and_of, not_of, truth_test, compare, between, member, null_test, column, no_parts, part}
use Rattle.semantics.specs.Canonical.{header_text}
use Rattle.semantics.specs.declared.query_fault.QueryFault.{QueryFault}
use Rattle.semantics.specs.declared.query_fault.QueryFault.TheVariants.{UnknownColumn, TypesDisagree, NotGrouped, OverLimit, FunctionNotAllowed, RepeatedHeader, OutOfMemory}
use Rattle.query_typecheck.specs.declared.scope.Clause.{Clause}
use Rattle.query_typecheck.specs.declared.scope.Clause.TheVariants as clause
use Rattle.semantics.specs.Names.{column_kind, place_of}
use Rattle.semantics.specs.Sets.{expansion, grouping_names, grouping_places}
use Rattle.semantics.specs.SetFunctions.{functions_of}
use Rattle.semantics.specs.Faults.{same_kind}
use Rattle.query_typecheck.specs.Typing.{argument_names, may_stand, takes}
use Rattle.semantics.specs.Types.{key_expression, literal_kind, operand_kind}
use Rattle.semantics.specs.Limits.{most_grouping_sets, most_set_functions}

-- The first fault of the elements of a list, from left to right.
abbrev pub first_fault : {A : Type 0} → (A → Option QueryFault) → List A → Option QueryFault
first_fault f [] = None
first_fault f (x ∷ xs) = option_or (f x) (first_fault f xs)

-- One element of a list has this fault, and none before it has any.
abbrev pub IsFirst : {A : Type 0} → (A → Option QueryFault) → List A → QueryFault → Type 0
IsFirst {A} test xs f = (front : List A) × (x : A) × (back : List A) × (xs ≡ front ++ x ∷ back) × (test x ≡ Some f) × All (λ y. test y ≡ None) front

-- This fault, unless the test holds.
abbrev pub fault_unless : Bool → QueryFault → Option QueryFault
fault_unless test fault = if test then None else Some fault

-- A test passes where there is no fault, and else answers this one, unless memory is refused.
abbrev pub Answers : {X : Type 0} → Result X QueryFault → Option QueryFault → Type 0
Answers result fault = MatchResult result (λ _. fault ≡ None) (λ f. f ≢ OutOfMemory → fault ≡ Some f)

-- ---- names

-- No column has this name.
abbrev pub column_fault : List Field → List ℕ → Option QueryFault
column_fault fields n = fault_unless (is_some (place_of fields n)) (UnknownColumn n)

-- No column has this name, or the column at this place is no grouping column.
abbrev pub grouped_at_fault : List ℕ → List ℕ → Option ℕ → Option QueryFault
grouped_at_fault grouped n None = Some (UnknownColumn n)
grouped_at_fault grouped n (Some place) = fault_unless (list_any (λ g. g == place) grouped) (NotGrouped n)

-- A name that is no grouping column.
abbrev pub grouped_fault : List Field → List ℕ → List ℕ → Option QueryFault
grouped_fault fields grouped n = grouped_at_fault grouped n (place_of fields n)

-- A name in WHERE is any column, in every other clause a grouping column.
abbrev pub name_fault : List Field → List ℕ → Clause → List ℕ → Option QueryFault
name_fault fields grouped clause.Where n = column_fault fields n
name_fault fields grouped clause.Select n = grouped_fault fields grouped n
name_fault fields grouped clause.Having n = grouped_fault fields grouped n
name_fault fields grouped clause.OrderBy n = grouped_fault fields grouped n

-- ---- functions

-- The type of a column is none of these.
abbrev pub kind_fault : List Kind → Option Kind → Option QueryFault
kind_fault kinds k = fault_unless (option_map_or (λ one. list_any (same_kind one) kinds) k false) TypesDisagree

-- An argument that is no column, or a column of another type than these.
abbrev pub argument_fault : List Field → List Kind → List ℕ → Option QueryFault
argument_fault fields kinds n = option_or (column_fault fields n) (kind_fault kinds (column_kind fields n))

-- The argument of a set function that is no column, or a column of a type that it does not take.
abbrev pub aggregate_fault : List Field → Aggregate → Option QueryFault
aggregate_fault fields a = first_fault (argument_fault fields (takes a)) (argument_names a)

-- ---- expressions and predicates

-- GROUPING may not stand in WHERE, and takes grouping columns.
abbrev pub grouping_fault : List Field → List ℕ → Clause → List (List ℕ) → Option QueryFault
grouping_fault fields grouped clause.Where ns = Some FunctionNotAllowed
grouping_fault fields grouped clause.Select ns = first_fault (grouped_fault fields grouped) ns
grouping_fault fields grouped clause.Having ns = first_fault (grouped_fault fields grouped) ns
grouping_fault fields grouped clause.OrderBy ns = first_fault (grouped_fault fields grouped) ns

-- The types of two operands are not one type.
abbrev pub agreement_fault : Option Kind → Option Kind → Option QueryFault
agreement_fault None l = Some TypesDisagree
agreement_fault (Some k) None = Some TypesDisagree
agreement_fault (Some k) (Some l) = fault_unless (same_kind k l) TypesDisagree

-- In BETWEEN the types of all three operands are one.
abbrev pub between_agreement : List Field → Operand → Operand → Operand → Option QueryFault
between_agreement fields x y z =
    option_or (agreement_fault (operand_kind fields x) (operand_kind fields y))
    (agreement_fault (operand_kind fields x) (operand_kind fields z))

-- In IN the types of the operand and of all literals are one.
abbrev pub member_agreement : List Field → Operand → List Literal → Option QueryFault
member_agreement fields x ls = first_fault (λ a. agreement_fault (operand_kind fields x) (Some (literal_kind a))) ls

-- A bare name is a column of truth values.
abbrev pub truth_fault : List Field → List ℕ → Clause → List ℕ → Option QueryFault
truth_fault fields grouped c n =
    option_or (name_fault fields grouped c n) (kind_fault (kind.Bool ∷ []) (column_kind fields n))

abbrev mutual
  -- The first fault of an expression in a clause.
  pub expression_fault : List Field → List ℕ → Clause → Expression → Option QueryFault
  expression_fault fields grouped c (name n) = name_fault fields grouped c n
  expression_fault fields grouped c (grouping ns) = grouping_fault fields grouped c ns
  expression_fault fields grouped c (function f) = function_fault fields c f

  -- A set function that may not stand is not looked into. Else its argument is tested, and then its
  -- FILTER, in which all stands as in WHERE.
  pub function_fault : List Field → Clause → SetFunction → Option QueryFault
  function_fault fields c (over_all a) = if may_stand c a then aggregate_fault fields a else Some FunctionNotAllowed
  function_fault fields c (over_filtered a p) =
      if may_stand c a then option_or (aggregate_fault fields a) (predicate_fault fields [] clause.Where p) else Some FunctionNotAllowed

  -- The first fault of an operand; a literal has none.
  pub operand_fault : List Field → List ℕ → Clause → Operand → Option QueryFault
  operand_fault fields grouped c (expression e) = expression_fault fields grouped c e
  operand_fault fields grouped c (literal a) = None

  -- The first fault of a predicate in a clause. In an atom all operands are tested from the left,
  -- then their types.
  pub predicate_fault : List Field → List ℕ → Clause → Predicate → Option QueryFault
  predicate_fault fields grouped c (or_of ps) = parts_fault fields grouped c ps
  predicate_fault fields grouped c (and_of ps) = parts_fault fields grouped c ps
  predicate_fault fields grouped c (not_of p) = predicate_fault fields grouped c p
  predicate_fault fields grouped c (truth_test p n t) = predicate_fault fields grouped c p
  predicate_fault fields grouped c (compare x o y) =
      option_or (operand_fault fields grouped c x)
      (option_or (operand_fault fields grouped c y)
      (agreement_fault (operand_kind fields x) (operand_kind fields y)))
  predicate_fault fields grouped c (between x n y z) =
      option_or (operand_fault fields grouped c x)
      (option_or (operand_fault fields grouped c y)
      (option_or (operand_fault fields grouped c z)
      (between_agreement fields x y z)))
  predicate_fault fields grouped c (member x n ls) = option_or (operand_fault fields grouped c x) (member_agreement fields x ls)
  predicate_fault fields grouped c (null_test x n) = operand_fault fields grouped c x
  predicate_fault fields grouped c (column n) = truth_fault fields grouped c n

  -- The first fault of the parts of an OR or an AND.
  pub parts_fault : List Field → List ℕ → Clause → Predicates → Option QueryFault
  parts_fault fields grouped c no_parts = None
  parts_fault fields grouped c (part p ps) = option_or (predicate_fault fields grouped c p) (parts_fault fields grouped c ps)

-- ---- the query

-- The first fault of a clause of one predicate, where it is written.
abbrev pub clause_fault : List Field → List ℕ → Clause → Option Predicate → Option QueryFault
clause_fault fields grouped c None = None
clause_fault fields grouped c (Some p) = predicate_fault fields grouped c p

-- A header that an earlier item has.
abbrev pub header_fault : List (List ℕ) → List ℕ → Option QueryFault
header_fault earlier h = fault_unless (not (list_any (bytes_eq h) earlier)) (RepeatedHeader h)

-- The first header that repeats an earlier one.
abbrev pub headers_fault : List (List ℕ) → Option QueryFault
headers_fault headers = first_fault (λ p. header_fault (take p.0 headers) p.1) (enumerate_from 0 headers)

-- More than the most that there may be.
abbrev pub limit_fault : ℕ → ℕ → Option QueryFault
limit_fault most n = fault_unless (not (nat_lt most n)) OverLimit

-- The tests of a query under a schema, in their order: WHERE, the names in GROUP BY, the number of
-- its expanded sets, the items of SELECT, their headers, HAVING, the keys of ORDER BY, and the
-- number of different set functions.
unfoldable pub tests_of : List Field → Query → List (Option QueryFault)
tests_of fields t =
    clause_fault fields (grouping_places fields t) clause.Where t.where_condition
    ∷ first_fault (column_fault fields) (grouping_names t)
    ∷ limit_fault most_grouping_sets (length (expansion t.groups))
    ∷ first_fault (λ i. expression_fault fields (grouping_places fields t) clause.Select i.expression) t.items
    ∷ headers_fault (map header_text t.items)
    ∷ clause_fault fields (grouping_places fields t) clause.Having t.having_condition
    ∷ first_fault (λ k. expression_fault fields (grouping_places fields t) clause.OrderBy (key_expression t.items k.expression)) t.keys
    ∷ limit_fault most_set_functions (length (functions_of fields t))
    ∷ []

-- The first fault of a query under a schema.
abbrev pub query_fault : List Field → Query → Option QueryFault
query_fault fields t = first_fault (λ fault. fault) (tests_of fields t)
