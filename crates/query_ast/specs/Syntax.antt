-- The form of a syntax tree, read off the values of the program.
use Rattle.std.specs.Prelude.{ℕ, Option, Some, None, List, map, Vec, Box}
use Rattle.std.specs.Global.{Global}
use Rattle.std.specs.Option.{option_map}
use Rattle.semantics.specs.declared.literal.Literal.{Literal}
use Rattle.semantics.specs.declared.aggregate.Aggregate.{Aggregate}
use Rattle.query_ast.specs.declared.expression.Expression.{Expression}
use Rattle.query_ast.specs.declared.expression.Operand.{Operand}
use Rattle.query_ast.specs.declared.expression.Predicate.{Predicate}
use Rattle.query_ast.specs.declared.expression.SetFunction.{SetFunction}
use Rattle.query_ast.specs.declared.expression.Expression.TheOpen.{Expression-F, SetFunction-F, Operand-F, Predicate-F}
use Rattle.query_ast.specs.declared.expression.Expression.TheOpen as layer
use Rattle.query_ast.specs.declared.expression.Expression.TheFolds.{fold-Expression, fold-Operand, fold-Predicate, fold-SetFunction}
use Rattle.query_ast.specs.declared.group.GroupingElement.{GroupingElement}
use Rattle.query_ast.specs.declared.group.GroupingElement.TheOpen.{GroupingElement-F}
use Rattle.query_ast.specs.declared.group.GroupingElement.TheOpen as group_layer
use Rattle.query_ast.specs.declared.group.GroupingElement.TheFolds.{fold-GroupingElement}
use Rattle.query_ast.specs.declared.tree.Item.{Item}
use Rattle.query_ast.specs.declared.tree.Key.{Key}
use Rattle.query_ast.specs.declared.tree.Tree.{Tree}
use Rattle.semantics.specs.Syntax as syntax
use Rattle.semantics.specs.Syntax.{name, grouping, function, over_all, over_filtered, expression, literal, or_of, and_of, not_of, truth_test, compare, between, member, null_test, column, set, rollup, cube, sets, predicate_forms, element_forms}

-- The units of a ROLLUP or a CUBE.
abbrev pub units_form : List (Vec (List ℕ) Global) → List (List (List ℕ))
units_form = map (λ unit. unit.items)

-- A set function with the predicate of its FILTER, or with none.
abbrev pub function_form_of : Aggregate → Option (Box syntax.Predicate Global) → syntax.SetFunction
function_form_of f None = over_all f
function_form_of f (Some p) = over_filtered f p.value

-- A set function whose predicate is seen by its form already, and so for the three steps that
-- follow.
abbrev pub function_step : SetFunction-F syntax.Expression syntax.Operand syntax.Predicate syntax.SetFunction → syntax.SetFunction
function_step f = function_form_of f.aggregate f.filter

abbrev pub expression_step : Expression-F syntax.Expression syntax.Operand syntax.Predicate syntax.SetFunction → syntax.Expression
expression_step (layer.Name n) = name n
expression_step (layer.Grouping ns) = grouping ns.items
expression_step (layer.Function f) = function f.value

abbrev pub operand_step : Operand-F syntax.Expression syntax.Operand syntax.Predicate syntax.SetFunction → syntax.Operand
operand_step (layer.Expression e) = syntax.Operand.expression e
operand_step (layer.Literal a) = literal a

abbrev pub predicate_step : Predicate-F syntax.Expression syntax.Operand syntax.Predicate syntax.SetFunction → syntax.Predicate
predicate_step (layer.Or ps) = or_of (predicate_forms ps.items)
predicate_step (layer.And ps) = and_of (predicate_forms ps.items)
predicate_step (layer.Not p) = not_of p.value
predicate_step (layer.Is p n t) = truth_test p.value n t
predicate_step (layer.Compare a c b) = compare a c b
predicate_step (layer.Between a n b c) = between a n b c
predicate_step (layer.In a n ls) = member a n ls.items
predicate_step (layer.IsNull a n) = null_test a n
predicate_step (layer.Column n) = column n

-- The form of a set function.
abbrev pub function_form : SetFunction → syntax.SetFunction
function_form = fold-SetFunction syntax.Expression syntax.Operand syntax.Predicate syntax.SetFunction expression_step operand_step predicate_step function_step

-- The form of an expression.
abbrev pub expression_form : Expression → syntax.Expression
expression_form = fold-Expression syntax.Expression syntax.Operand syntax.Predicate syntax.SetFunction expression_step operand_step predicate_step function_step

-- The form of an operand.
abbrev pub operand_form : Operand → syntax.Operand
operand_form = fold-Operand syntax.Expression syntax.Operand syntax.Predicate syntax.SetFunction expression_step operand_step predicate_step function_step

-- The form of a predicate.
abbrev pub predicate_form : Predicate → syntax.Predicate
predicate_form = fold-Predicate syntax.Expression syntax.Operand syntax.Predicate syntax.SetFunction expression_step operand_step predicate_step function_step

-- A group whose inner groups are seen by their forms already.
abbrev pub element_step : GroupingElement-F syntax.GroupingElement → syntax.GroupingElement
element_step (group_layer.Set ns) = set ns.items
element_step (group_layer.Rollup us) = rollup (units_form us.items)
element_step (group_layer.Cube us) = cube (units_form us.items)
element_step (group_layer.Sets gs) = sets (element_forms gs.items)

-- The form of a group.
abbrev pub element_form : GroupingElement → syntax.GroupingElement
element_form = fold-GroupingElement syntax.GroupingElement element_step

-- The form of an item.
abbrev pub item_form : Item → syntax.SelectItem
item_form i = record { expression = expression_form i.expression; alias = i.alias }

-- The form of a key.
abbrev pub key_form : Key → syntax.SortKey
key_form k = record { expression = expression_form k.expression; descending = k.descending; nulls_first = k.nulls_first }

-- The form of a query.
abbrev pub tree_form : Tree → syntax.Query
tree_form t = record {
  items = map item_form t.items.items;
  where_condition = option_map predicate_form t.where_condition;
  distinct_sets = t.distinct_sets;
  groups = map element_form t.groups.items;
  having_condition = option_map predicate_form t.having_condition;
  keys = map key_form t.keys.items;
}
