-- The different set functions of a query (ISO/IEC 9075-2, <set function specification>). Two are
-- the same if the function, DISTINCT, the column and the FILTER are (`same_function_law` of
-- query_resolve).
use Rattle.std.specs.List.{filter_map, flat_map}
use Rattle.std.specs.Option.{option_and_then, option_map_or}
use Rattle.std.specs.Prelude.{ℕ, Option, List, [], ◌∷◌, ◌++◌, position}
use Rattle.semantics.specs.Columns.{Field}
use Rattle.semantics.specs.Inside.Same.{same_planned}
use Rattle.semantics.specs.Names.{PlannedFunction, planned_function}
use Rattle.semantics.specs.Lists.{distinct}
use Rattle.semantics.specs.Syntax.{Expression, SetFunction, Operand, Query, name, grouping, function, expression, literal, operands_of_atoms}

-- The set function that an expression is, if it is one. What stands in its FILTER is no part of
-- this: no set function may stand there.
abbrev pub expression_functions : Expression → List SetFunction
expression_functions (name n) = []
expression_functions (grouping ns) = []
expression_functions (function f) = f ∷ []

-- The set function that an operand is, if it is one.
abbrev pub operand_functions : Operand → List SetFunction
operand_functions (expression e) = expression_functions e
operand_functions (literal a) = []

-- The set functions in SELECT, HAVING and ORDER BY, from left to right.
abbrev pub set_functions : Query → List SetFunction
set_functions t =
    flat_map (λ i. expression_functions i.expression) t.items
    ++ flat_map (flat_map operand_functions) (option_map_or operands_of_atoms t.having_condition [])
    ++ flat_map (λ k. expression_functions k.expression) t.keys

-- The different set functions of a query, in the order in which they first stand in SELECT, HAVING
-- and ORDER BY.
abbrev pub functions_of : List Field → Query → List PlannedFunction
functions_of fields t =
    distinct same_planned (filter_map (planned_function fields) (set_functions t))

-- The place of a set function among those of a query.
abbrev pub place_among : List Field → Query → SetFunction → Option ℕ
place_among fields t g =
    option_and_then (λ f. position (same_planned f) (functions_of fields t))
    (planned_function fields g)
