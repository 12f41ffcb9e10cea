-- Which faults stand in a query under a schema, wherever in it they stand (ISO/IEC 9075-2, <query
-- specification>).
use Rattle.std.specs.Prelude.{◌≡◌, ◌≢◌, ◌<◌, ⊤, ◌⊎◌, ℕ, false, Option, Some, List, ◌∷◌, ◌++◌, map, length, Contains, []}
use Rattle.std.specs.Option.{option_map_or}
use Rattle.semantics.specs.declared.kind.Kind.{Kind}
use Rattle.semantics.specs.declared.kind.Kind.TheVariants as kind
use Rattle.semantics.specs.Columns.{Field}
use Rattle.semantics.specs.declared.aggregate.Aggregate.{Aggregate}
use Rattle.semantics.specs.Syntax.{Expression, SetFunction, Operand, Predicate, Predicates, Query, name, grouping, function, over_filtered, expression, literal, or_of, and_of, not_of, truth_test, compare, between, member, null_test, column, no_parts, part}
use Rattle.semantics.specs.Canonical.{header_text}
use Rattle.semantics.specs.declared.query_fault.QueryFault.{QueryFault}
use Rattle.semantics.specs.declared.query_fault.QueryFault.TheVariants as faults
use Rattle.query_typecheck.specs.declared.scope.Clause.{Clause}
use Rattle.query_typecheck.specs.declared.scope.Clause.TheVariants as clause
use Rattle.semantics.specs.Names.{column_kind, aggregate_of}
use Rattle.semantics.specs.Sets.{expansion, grouping_names}
use Rattle.semantics.specs.SetFunctions.{functions_of}
use Rattle.query_typecheck.specs.Typing.{IsColumn, argument_names, may_stand, takes}
use Rattle.semantics.specs.Types.{key_expression, operand_kind}
use Rattle.semantics.specs.Limits.{most_grouping_sets, most_set_functions}

-- ---- what stands in a query

abbrev mutual
  -- The atoms of a predicate: comparisons, BETWEEN, IN and null tests, and names that stand alone.
  pub atoms : Predicate → List Predicate
  atoms (or_of ps) = parts_atoms ps
  atoms (and_of ps) = parts_atoms ps
  atoms (not_of p) = atoms p
  atoms (truth_test p n t) = atoms p
  atoms p = p ∷ []

  -- Those of the parts of an OR or an AND.
  pub parts_atoms : Predicates → List Predicate
  parts_atoms no_parts = []
  parts_atoms (part p ps) = atoms p ++ parts_atoms ps

-- The operands of an atom, the literals of IN among them.
abbrev pub operands : Predicate → List Operand
operands (compare x o y) = x ∷ y ∷ []
operands (between x n y z) = x ∷ y ∷ z ∷ []
operands (member x n ls) = x ∷ map literal ls
operands (null_test x n) = x ∷ []
operands (column n) = expression (name n) ∷ []
operands p = []

-- The atoms of the predicate of a clause; only WHERE and HAVING have one.
abbrev pub atoms_in : Query → Clause → List Predicate
atoms_in t clause.Where = option_map_or atoms t.where_condition []
atoms_in t clause.Select = []
atoms_in t clause.Having = option_map_or atoms t.having_condition []
atoms_in t clause.OrderBy = []

-- An expression is written in a clause outside of each FILTER: in SELECT it is an item's, in ORDER
-- BY a key's, where an alias stands for its item, and in WHERE and HAVING it is an operand of an
-- atom.
abbrev pub IsWrittenIn : Query → Clause → Expression → Type 0
IsWrittenIn t clause.Select e = Contains (map (λ i. i.expression) t.items) e
IsWrittenIn t clause.OrderBy e = Contains (map (λ k. key_expression t.items k.expression) t.keys) e
IsWrittenIn t clause.Where e = (p : Predicate) × Contains (atoms_in t clause.Where) p × Contains (operands p) (expression e)
IsWrittenIn t clause.Having e = (p : Predicate) × Contains (atoms_in t clause.Having) p × Contains (operands p) (expression e)

-- A predicate is the FILTER of a set function that is written in some clause.
abbrev pub IsFilterIn : Query → Predicate → Type 0
IsFilterIn t p = (c : Clause) × (a : Aggregate) × IsWrittenIn t c (function (over_filtered a p))

-- An atom stands in a clause where it is one of the clause's predicate. In a FILTER all stands as
-- in WHERE, in whichever clause the set function is, so the atoms of each FILTER stand there too.
abbrev pub IsAtomIn : Query → Clause → Predicate → Type 0
IsAtomIn t clause.Where p = Contains (atoms_in t clause.Where) p ⊎ ((q : Predicate) × IsFilterIn t q × Contains (atoms q) p)
IsAtomIn t c p = Contains (atoms_in t c) p

-- An expression stands in a clause: in SELECT it is an item's, in ORDER BY a key's, where an alias
-- stands for its item, and in WHERE, a FILTER and HAVING it is an operand of an atom.
abbrev pub StandsIn : Query → Clause → Expression → Type 0
StandsIn t clause.Select e = Contains (map (λ i. i.expression) t.items) e
StandsIn t clause.OrderBy e = Contains (map (λ k. key_expression t.items k.expression) t.keys) e
StandsIn t clause.Where e = (p : Predicate) × IsAtomIn t clause.Where p × Contains (operands p) (expression e)
StandsIn t clause.Having e = (p : Predicate) × IsAtomIn t clause.Having p × Contains (operands p) (expression e)

-- The names in an expression outside of a set function: a name itself, or the arguments of
-- GROUPING.
abbrev pub outer_names : Expression → List (List ℕ)
outer_names (name n) = n ∷ []
outer_names (grouping ns) = ns
outer_names (function f) = []

-- All names in an expression, outside of a FILTER.
abbrev pub names : Expression → List (List ℕ)
names (name n) = n ∷ []
names (grouping ns) = ns
names (function f) = argument_names (aggregate_of f)

-- ---- what is wrong with it

-- There are two types, and they differ.
abbrev pub AreOfTwoKinds : Option Kind → Option Kind → Type 0
AreOfTwoKinds k l = (one : Kind) × (other : Kind) × (k ≡ Some one) × (l ≡ Some other) × (one ≢ other)

-- The types of an atom disagree: a name that stands alone is of another type than truth values, or
-- two operands are of two types.
abbrev pub Disagrees : List Field → Predicate → Type 0
Disagrees fields (column n) = AreOfTwoKinds (column_kind fields n) (Some kind.Bool)
Disagrees fields p = (x : Operand) × (y : Operand) × Contains (operands p) x × Contains (operands p) y × AreOfTwoKinds (operand_kind fields x) (operand_kind fields y)

-- A set function is taken of a column of a type that it does not take.
abbrev pub IsOfOtherKind : List Field → Aggregate → Type 0
IsOfOtherKind fields a = (n : List ℕ) × (k : Kind) × Contains (argument_names a) n × (column_kind fields n ≡ Some k) × (Contains (takes a) k → ⊥)

-- A function stands where it may not: GROUPING in WHERE or a FILTER, a set function there, AVG
-- outside of SELECT.
abbrev pub IsMisplaced : Clause → Expression → Type 0
IsMisplaced c (name n) = ⊥
IsMisplaced c (grouping ns) = c ≡ clause.Where
IsMisplaced c (function f) = may_stand c (aggregate_of f) ≡ false

-- A header stands twice: once, and once more before.
abbrev pub StandsTwice : List ℕ → List (List ℕ) → Type 0
StandsTwice h headers = (before : List (List ℕ)) × (behind : List (List ℕ)) × (headers ≡ before ++ h ∷ behind) × Contains before h

-- ---- the faults

-- A fault is a violation of a query under a schema: an unknown column, where GROUP BY or an
-- expression of a clause has the name, and no column of the schema; a column that is not grouped,
-- where its name stands in SELECT, HAVING or ORDER BY outside of a set function, and not in GROUP
-- BY; types that disagree, where those of an atom do, or where a set function is taken of a column
-- of another type; a function that is not allowed, where one stands where it may not; too much,
-- where there are more than 256 grouping sets or more than 64 different set functions; a repeated
-- header, where two items have it. A query that was read has no fault of its text. Want of memory
-- says nothing.
abbrev pub IsViolation : List Field → Query → QueryFault → Type 0
IsViolation fields t (faults.UnknownColumn n) = (Contains (grouping_names t) n ⊎ ((c : Clause) × (e : Expression) × StandsIn t c e × Contains (names e) n)) × (IsColumn fields n → ⊥)
IsViolation fields t (faults.NotGrouped n) = (c : Clause) × (e : Expression) × StandsIn t c e × (c ≢ clause.Where) × Contains (outer_names e) n × IsColumn fields n × (Contains (grouping_names t) n → ⊥)
IsViolation fields t faults.TypesDisagree = ((c : Clause) × (p : Predicate) × IsAtomIn t c p × Disagrees fields p) ⊎ ((c : Clause) × (f : SetFunction) × StandsIn t c (function f) × IsOfOtherKind fields (aggregate_of f))
IsViolation fields t faults.FunctionNotAllowed = (c : Clause) × (e : Expression) × StandsIn t c e × IsMisplaced c e
IsViolation fields t faults.OverLimit = (most_grouping_sets < length (expansion t.groups)) ⊎ (most_set_functions < length (functions_of fields t))
IsViolation fields t (faults.RepeatedHeader h) = StandsTwice h (map header_text t.items)
IsViolation fields t (faults.NoToken byte) = ⊥
IsViolation fields t (faults.Unexpected byte) = ⊥
IsViolation fields t faults.OutOfMemory = ⊤
