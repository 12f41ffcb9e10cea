use mathlib.Core.List.{is_set}
use native.Mathlib.Nat.{ℕ_set}
use Rattle.std.proofs.Common.{◌≡◌, ◌∙◌, ap}
use Rattle.std.proofs.Math.Logic.{∥∥₁_elim}
use Rattle.query_resolve.specs.Resolution.{Resolution, contents}
use Rattle.semantics.specs.Sets.{sets_of}
use Rattle.query_plan.specs.Planned.{PlannedQuery}
use Rattle.query_plan.proofs.plan.Plan.sets.Goals as goal

pub returns : goal.returns
returns c =
    let one : IsProp (contents c.sets.result.now ≡ sets_of c.args.self.now.fields c.args.self.now.query) = is_set (is_set ℕ_set) _ _ in
    record {
      sets = ∥∥₁_elim c.self.inside.resolution one (λ e.
          c.sets.ensures ∙ ap (λ (r : Resolution). r.sets) e ∙ ap (λ (p : PlannedQuery). sets_of p.fields p.query) c.self.view_is);
    }
