use mathlib.Core.List.{is_set}
use native.Mathlib.Nat.{ℕ_set}
use Rattle.std.proofs.Common.{◌≡◌, ◌∙◌, ap}
use Rattle.std.proofs.Math.Logic.{∥∥₁_elim}
use Rattle.query_resolve.specs.Resolution.{Resolution}
use Rattle.semantics.specs.Sets.{grouping_places}
use Rattle.query_plan.specs.Planned.{PlannedQuery}
use Rattle.query_plan.proofs.plan.Plan.grouping.Goals as goal

pub returns : goal.returns
returns c =
    let one : IsProp (c.grouping.result.now ≡ grouping_places c.args.self.now.fields c.args.self.now.query) = is_set ℕ_set _ _ in
    record {
      grouping = ∥∥₁_elim c.self.inside.resolution one (λ e.
          c.grouping.ensures ∙ ap (λ (r : Resolution). r.grouping) e ∙ ap (λ (p : PlannedQuery). grouping_places p.fields p.query) c.self.view_is);
    }
