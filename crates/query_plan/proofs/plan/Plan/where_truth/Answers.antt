use Rattle.std.proofs.Common.{◌≡◌, ◌∙◌, true, ap, subst, sym}
use Rattle.std.proofs.Math.Logic.{∥∥₁_elim}
use Rattle.std.specs.Coded.{Coded-set, coded_bool}
use Rattle.values.specs.Datum.{data_of}
use Rattle.semantics.specs.Records.{Fits}
use Rattle.query_eval.specs.Binding.{bound_safe}
use Rattle.semantics.specs.Conditions.{where_truth}
use Rattle.query_plan.specs.Planned.{PlannedQuery}
use Rattle.query_plan.proofs.TruthCodes.{truths-same}
use Rattle.query_plan.proofs.plan.Plan.where_truth.Goals as goal

pub bound_truth-requires : goal.bound_truth-requires
bound_truth-requires c =
    let values = data_of c.args.values.now in
    let one : IsProp (bound_safe c.self.inside.condition values ≡ true) = Coded-set coded_bool _ _ in
    let fits = subst (λ (p : PlannedQuery). Fits p.fields values) (sym c.self.view_is) c.requires in
    ∥∥₁_elim c.self.inside.condition_is one (λ f. ∥∥₁_elim c.self.inside.typed one (λ t. f.safe _ t.where_condition values fits))

pub returns : goal.returns
returns c =
    let values = data_of c.args.values.now in
    ∥∥₁_elim c.self.inside.condition_is (truths-same _ _) (λ f.
    c.bound_truth.ensures ∙ f.worth values ∙ ap (λ (p : PlannedQuery). where_truth p.fields p.query.where_condition values) c.self.view_is)
