-- The syntax tree of a query (ISO/IEC 9075-2, <query specification>), apart from where its parts
-- lie in memory. Names and texts are their bytes in UTF-8.
use Rattle.std.specs.Prelude.{ℕ, Bool, true, Option, List, [], ◌∷◌, ◌++◌, map}
use Rattle.semantics.specs.declared.aggregate.Aggregate.{Aggregate}
use Rattle.semantics.specs.declared.comparison.Op.{Op}
use Rattle.semantics.specs.declared.literal.Literal.{Literal}
use Rattle.semantics.specs.declared.truth.Truth.{Truth}
use Rattle.semantics.specs.declared.literal.Literal.TheVariants as constant

mutual
  -- An expression is a name, a GROUPING of names, or a set function.
  pub data Expression : Type 0 where
    name : List ℕ → Expression
    grouping : List (List ℕ) → Expression
    function : SetFunction → Expression

  -- A set function goes over all records of a group, or over those that its FILTER keeps.
  pub data SetFunction : Type 0 where
    over_all : Aggregate → SetFunction
    over_filtered : Aggregate → Predicate → SetFunction

  -- An operand is an expression or a literal.
  pub data Operand : Type 0 where
    expression : Expression → Operand
    literal : Literal → Operand

  -- A predicate. The mark of a truth test, BETWEEN, IN and IS NULL is true if NOT is written in
  -- it.
  pub data Predicate : Type 0 where
    or_of : Predicates → Predicate
    and_of : Predicates → Predicate
    not_of : Predicate → Predicate
    truth_test : Predicate → Bool → Truth → Predicate
    compare : Operand → Op → Operand → Predicate
    between : Operand → Bool → Operand → Operand → Predicate
    member : Operand → Bool → List Literal → Predicate
    null_test : Operand → Bool → Predicate
    column : List ℕ → Predicate

  -- The parts of an OR or an AND, in order.
  pub data Predicates : Type 0 where
    no_parts : Predicates
    part : Predicate → Predicates → Predicates

mutual
  -- An element of GROUP BY: a set, a ROLLUP or a CUBE of units, or GROUPING SETS of elements.
  pub data GroupingElement : Type 0 where
    set : List (List ℕ) → GroupingElement
    rollup : List (List (List ℕ)) → GroupingElement
    cube : List (List (List ℕ)) → GroupingElement
    sets : GroupingElements → GroupingElement

  -- The elements of GROUPING SETS, in order.
  pub data GroupingElements : Type 0 where
    no_groups : GroupingElements
    group : GroupingElement → GroupingElements → GroupingElements

-- An item of SELECT: an expression, and the alias if there is one.
pub record SelectItem : Type 0 where
  pub expression : Expression
  pub alias : Option (List ℕ)

-- A key of ORDER BY, with its defaults resolved.
pub record SortKey : Type 0 where
  pub expression : Expression
  pub descending : Bool
  pub nulls_first : Bool

-- A query: the clauses that are not written are None or an empty list, and GROUP BY DISTINCT that
-- is not written is false.
pub record Query : Type 0 where
  pub items : List SelectItem
  pub where_condition : Option Predicate
  pub distinct_sets : Bool
  pub groups : List GroupingElement
  pub having_condition : Option Predicate
  pub keys : List SortKey

-- The parts of a list, as the parts of an OR or an AND.
abbrev pub predicate_forms : List Predicate → Predicates
predicate_forms [] = no_parts
predicate_forms (p ∷ ps) = part p (predicate_forms ps)

-- The groups of a list, as the elements of GROUPING SETS.
abbrev pub element_forms : List GroupingElement → GroupingElements
element_forms [] = no_groups
element_forms (g ∷ gs) = group g (element_forms gs)

abbrev mutual
  -- The operands of each atom of a predicate, from left to right. The atoms are comparisons,
  -- BETWEEN, IN, IS NULL, and names that stand alone; such a name stands beside TRUE.
  pub operands_of_atoms : Predicate → List (List Operand)
  operands_of_atoms (or_of ps) = operands_of_parts ps
  operands_of_atoms (and_of ps) = operands_of_parts ps
  operands_of_atoms (not_of p) = operands_of_atoms p
  operands_of_atoms (truth_test p n t) = operands_of_atoms p
  operands_of_atoms (compare x o y) = (x ∷ y ∷ []) ∷ []
  operands_of_atoms (between x n y z) = (x ∷ y ∷ z ∷ []) ∷ []
  operands_of_atoms (member x n ls) = (x ∷ map literal ls) ∷ []
  operands_of_atoms (null_test x n) = (x ∷ []) ∷ []
  operands_of_atoms (column n) = (expression (name n) ∷ literal (constant.Truth true) ∷ []) ∷ []

  -- Those of the parts of an OR or an AND.
  pub operands_of_parts : Predicates → List (List Operand)
  operands_of_parts no_parts = []
  operands_of_parts (part p ps) = operands_of_atoms p ++ operands_of_parts ps
