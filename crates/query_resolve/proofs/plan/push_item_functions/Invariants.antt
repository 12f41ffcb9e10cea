use Rattle.std.proofs.Common.{◌≡◌, ◌++◌, drop, map}
use Rattle.std.specs.List.{filter_map, flat_map}
use Rattle.values.specs.Schema.{fields_of}
use Rattle.query_ast.specs.Syntax.{item_form}
use Rattle.semantics.specs.SetFunctions.{expression_functions}
use Rattle.semantics.specs.Names.{planned_function}
use Rattle.query_resolve.specs.Planning.{planned_forms}
use Rattle.query_resolve.proofs.plan.push_item_functions.Given as goal

abbrev pub invariant-loop-item : goal.invariant-loop-item
invariant-loop-item l = planned_forms l.functions.items ++ filter_map (planned_function (fields_of l.columns)) (flat_map (λ i. expression_functions i.expression) (map item_form (drop l.item-index l.items))) ≡ planned_forms l.fn.functions.items ++ filter_map (planned_function (fields_of l.columns)) (flat_map (λ i. expression_functions i.expression) (map item_form l.items))
