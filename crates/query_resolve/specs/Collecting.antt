-- The set functions of a query as the code collects them, clause by clause. They are those that
-- `set_functions` says.
use Rattle.std.specs.Prelude.{List, ◌++◌, []}
use Rattle.std.specs.List.{flat_map}
use Rattle.std.specs.Option.{option_map_or}
use Rattle.semantics.specs.Syntax.{SetFunction, Operand, Predicate, Predicates, Query, or_of, and_of, not_of, truth_test, compare, between, member, null_test, column, no_parts, part}
use Rattle.semantics.specs.SetFunctions.{expression_functions, operand_functions}

-- The set functions that the operands of a BETWEEN are, from left to right.
abbrev pub range_functions : Operand → Operand → Operand → List SetFunction
range_functions operand low high = operand_functions operand ++ operand_functions low ++ operand_functions high

abbrev mutual
  -- The set functions in a predicate, from left to right.
  pub predicate_functions : Predicate → List SetFunction
  predicate_functions (or_of ps) = parts_functions ps
  predicate_functions (and_of ps) = parts_functions ps
  predicate_functions (not_of p) = predicate_functions p
  predicate_functions (truth_test p n t) = predicate_functions p
  predicate_functions (compare a c b) = operand_functions a ++ operand_functions b
  predicate_functions (between a n b c) = range_functions a b c
  predicate_functions (member a n ls) = operand_functions a
  predicate_functions (null_test a n) = operand_functions a
  predicate_functions (column n) = []

  -- Those in the parts of an OR or an AND.
  pub parts_functions : Predicates → List SetFunction
  parts_functions no_parts = []
  parts_functions (part p ps) = predicate_functions p ++ parts_functions ps

-- The set functions in SELECT, HAVING and ORDER BY, from left to right.
abbrev pub clause_functions : Query → List SetFunction
clause_functions t =
    flat_map (λ i. expression_functions i.expression) t.items
    ++ option_map_or predicate_functions t.having_condition []
    ++ flat_map (λ k. expression_functions k.expression) t.keys
