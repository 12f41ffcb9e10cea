use Rattle.std.proofs.Common.{◌∙◌, ap}
use Rattle.std.proofs.Math.Logic.{∥∥₁_elim}
use Rattle.query_resolve.specs.Functions.{indexed_functions}
use Rattle.query_resolve.specs.Resolution.{Resolution}
use Rattle.query_plan.specs.Planned.{PlannedQuery}
use Rattle.query_plan.proofs.FunctionCodes.{functions-same}
use Rattle.query_plan.proofs.plan.Plan.set_functions.Goals as goal

pub returns : goal.returns
returns c = record {
  functions = ∥∥₁_elim c.self.inside.resolution (functions-same _ _) (λ e.
      c.functions.ensures ∙ ap (λ (r : Resolution). r.functions) e ∙ ap (λ (p : PlannedQuery). indexed_functions p.fields p.query) c.self.view_is);
}
