use Rattle.std.proofs.Common.{List, ap, position, ◌∙◌}
use Rattle.std.proofs.Math.Logic.{∥∥₁_elim}
use Rattle.std.specs.Coded.{Coded-set, coded_option, coded_ℕ}
use Rattle.std.specs.Option.{option_and_then}
use Rattle.semantics.specs.Columns.{Field}
use Rattle.values.specs.Schema.{fields_of}
use Rattle.query_resolve.specs.declared.plan.Planned.{Planned}
use Rattle.query_ast.specs.Syntax.{function_form}
use Rattle.semantics.specs.Names.{PlannedFunction, planned_function}
use Rattle.semantics.specs.SetFunctions.{functions_of, place_among}
use Rattle.semantics.specs.Inside.Same.{same_planned}
use Rattle.query_resolve.specs.Planning.{planned_forms}
use Rattle.query_plan.specs.Planned.{PlannedQuery}
use Rattle.report_rows.proofs.view.PlanView.function_place.Goals as goal

pub returns : goal.returns
returns c =
    let g = function_form c.args.function.now in
    let inside = c.self.inside in
    ∥∥₁_elim inside.functions_are (Coded-set (coded_option coded_ℕ) _ _) (λ e.
    c.planned_place.ensures
    ∙ ap (λ (ps : List Planned). option_and_then (λ f. position (same_planned f) (planned_forms ps)) (planned_function (fields_of c.columns.result.now) g)) c.as_slice.ensures.value
    ∙ ap (λ (fs : List PlannedFunction). option_and_then (λ f. position (same_planned f) fs) (planned_function (fields_of c.columns.result.now) g)) e
    ∙ ap (λ (fields : List Field). option_and_then (λ f. position (same_planned f) (functions_of inside.plan.now.fields inside.plan.now.query)) (planned_function fields g)) (c.columns.ensures.columns ∙ c.schema.ensures.schema)
    ∙ ap (λ (plan : PlannedQuery). place_among plan.fields plan.query g) c.self.view_is)
