use Rattle.std.proofs.Common.{ap, subst}
use Rattle.query_typecheck.specs.Typing.{IsTyped}
use Rattle.query_plan.specs.Planned.{PlannedQuery}
use Rattle.query_plan.proofs.plan.Plan.query.Goals as goal

pub returns : goal.returns
returns c = record {
  query = ap (λ (p : PlannedQuery). p.query) c.self.view_is;
  typed = subst (λ (p : PlannedQuery). ∥ IsTyped p.fields p.query ∥₁) c.self.view_is c.self.inside.typed;
}
