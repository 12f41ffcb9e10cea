use Rattle.std.proofs.Common.{rules, tests, ◌∙◌}
use Rattle.std.proofs.lemmas.Iterator.{YieldsList-from_slice}
use Rattle.std.proofs.lemmas.Iterator.Search.{position_from_yields_List}
use Rattle.query_resolve.specs.declared.plan.Planned.{Planned}
use Rattle.semantics.specs.Inside.Same.{same_planned}
use Rattle.query_resolve.specs.Planning.{planned_form}
use Rattle.query_resolve.proofs.Places.{position-map}
use Rattle.query_resolve.proofs.plan.function_place.Goals as goal

pub returns : goal.returns
returns c =
    position_from_yields_List (λ (f : Planned). same_planned (planned_form c.args.function.now) (planned_form f)) _ _ _ c.position.ensures.ran (YieldsList-from_slice c.args.functions.now (search rules)) (λ x b q k. search (rules, tests))
    ∙ position-map (same_planned (planned_form c.args.function.now)) planned_form c.args.functions.now
