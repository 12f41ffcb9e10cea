use Rattle.std.proofs.Common.{◌≡◌, ◌∙◌, true, List, [], map, ap, subst, sym}
use Rattle.std.proofs.Math.Logic.{∥∥₁_elim}
use Rattle.std.specs.Coded.{Coded-set, coded_bool}
use Rattle.std.specs.List.{list_all}
use Rattle.std.proofs.lemmas.List.Elements.{recursion_from_All}
use Rattle.query_typecheck.specs.declared.scope.Clause.TheVariants as clause
use Rattle.semantics.specs.Records.{Fits}
use Rattle.query_resolve.specs.Functions.{filters_of}
use Rattle.query_typecheck.specs.Typing.{IsTypedPredicate}
use Rattle.query_eval.specs.declared.condition.Condition.{Condition}
use Rattle.semantics.specs.Conditions.{record_value, truth}
use Rattle.query_eval.specs.Meaning.{condition_truth, is_safe}
use Rattle.query_plan.specs.Planned.{PlannedQuery}
use Rattle.query_plan.proofs.Filtering.{all_safe, all_worth}
use Rattle.query_plan.proofs.TruthCodes.{all-truths-same}
use Rattle.query_plan.proofs.plan.Plan.conditions.Goals as goal

pub returns-clause-worth : goal.returns-clause-worth
returns-clause-worth c = λ values.
    let fields = c.self.inside.schema in
    let filters = filters_of fields c.self.inside.query in
    let kept = c.self.inside.filters.items in
    ap (map (λ (d : Condition). condition_truth d values)) c.as_slice.ensures.value
    ∙ ∥∥₁_elim c.self.inside.filters_are (all-truths-same _ _) (λ h. all_worth fields filters kept values h)
    ∙ ap (λ (p : PlannedQuery). map (truth (record_value p.fields values)) (filters_of p.fields p.query)) c.self.view_is

pub returns-clause-safe : goal.returns-clause-safe
returns-clause-safe c = λ values fits.
    let fields = c.self.inside.schema in
    let q = c.self.inside.query in
    let kept = c.self.inside.filters.items in
    let here = subst (λ (p : PlannedQuery). Fits p.fields values) (sym c.self.view_is) fits in
    let one : IsProp (list_all (λ safe. safe values) (map is_safe kept) ≡ true) = Coded-set coded_bool _ _ in
    ap (λ (cs : List Condition). list_all (λ safe. safe values) (map is_safe cs)) c.as_slice.ensures.value
    ∙ ∥∥₁_elim c.self.inside.filters_are one (λ h. ∥∥₁_elim c.self.inside.typed one (λ t. all_safe fields (filters_of fields q) kept values h (recursion_from_All (IsTypedPredicate fields [] clause.Where) (filters_of fields q) (c.filters_law.ensures.typed fields q t)) here))
