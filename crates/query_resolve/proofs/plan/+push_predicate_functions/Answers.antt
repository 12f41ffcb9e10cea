use Rattle.std.proofs.Common.{map}
use Rattle.std.specs.List.{filter_map}
use Rattle.std.proofs.lemmas.List.Elements.{filter_map-append}
use Rattle.values.specs.Schema.{fields_of}
use Rattle.query_ast.specs.declared.expression.Predicate.{Predicate}
use Rattle.query_ast.specs.Syntax.{predicate_form}
use Rattle.semantics.specs.Syntax.{predicate_forms}
use Rattle.query_resolve.specs.Collecting.{parts_functions, predicate_functions}
use Rattle.semantics.specs.Names.{planned_function}
use Rattle.query_resolve.specs.Planning.{planned_forms}
use Rattle.query_resolve.proofs.Rows.{appended_turn}
use Rattle.query_resolve.proofs.plan.+push_predicate_functions.Goals as goal

pub push_parts_functions-loop-part-preserved : goal.push_parts_functions-loop-part-preserved
push_parts_functions-loop-part-preserved t c =
    let fields = fields_of c.args.columns.now in
    appended_turn (λ (p : Predicate). filter_map (planned_function fields) (predicate_functions (predicate_form p))) (λ ps. filter_map (planned_function fields) (parts_functions (predicate_forms (map predicate_form ps))))
    (λ p ps. filter_map-append (planned_function fields) (predicate_functions (predicate_form p)) (parts_functions (predicate_forms (map predicate_form ps))))
    c.args.parts.now c.loop-part.part-index c.part-item.result c.loop-part-test.true c.part-item.is
    (planned_forms c.loop-part.functions.items) (planned_forms c.push_predicate_functions.new.functions.items) _
    c.in_ok-push_predicate_functions.ensures
    c.loop-part.invariant
