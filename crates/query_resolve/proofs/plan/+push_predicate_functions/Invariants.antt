use Rattle.std.proofs.Common.{◌≡◌, ◌++◌, drop, map}
use Rattle.std.specs.List.{filter_map}
use Rattle.values.specs.Schema.{fields_of}
use Rattle.query_ast.specs.Syntax.{predicate_form}
use Rattle.semantics.specs.Syntax.{predicate_forms}
use Rattle.query_resolve.specs.Collecting.{parts_functions}
use Rattle.semantics.specs.Names.{planned_function}
use Rattle.query_resolve.specs.Planning.{planned_forms}
use Rattle.query_resolve.proofs.plan.+push_predicate_functions.Given as goal

abbrev pub invariant-push_parts_functions-loop-part : goal.invariant-push_parts_functions-loop-part
invariant-push_parts_functions-loop-part l = planned_forms l.functions.items ++ filter_map (planned_function (fields_of l.columns)) (parts_functions (predicate_forms (map predicate_form (drop l.part-index l.parts)))) ≡ planned_forms l.fn.functions.items ++ filter_map (planned_function (fields_of l.columns)) (parts_functions (predicate_forms (map predicate_form l.parts)))
