use Rattle.std.proofs.Common.{◌∙◌, ℕ, List, map, sym, ap}
use Rattle.std.specs.Global.{Vec}
use Rattle.values.specs.Schema.{fields_of}
use Rattle.semantics.specs.Syntax.{GroupingElement}
use Rattle.query_ast.specs.Syntax.{element_form, units_form}
use Rattle.semantics.specs.Names.{places_of}
use Rattle.semantics.specs.Sets.{cube_sets, group_sets, ordered_set, rollup_sets}
use Rattle.query_resolve.specs.Resolution.{contents}
use Rattle.query_resolve.proofs.Expansions.{cube_form, cube_places, rollup_form, rollup_places}
use Rattle.query_resolve.proofs.Products.{cube_ordered, rollup_ordered}
use Rattle.query_resolve.proofs.Rows.{ok_same}
use Rattle.query_resolve.proofs.expansion.+group_sets.Goals as goal

pub returns-in_ok-rollup-in-Rollup : goal.returns-in_ok-rollup-in-Rollup
returns-in_ok-rollup-in-Rollup t c =
    let grouping = c.args.grouping.now in
    let in_order = map (ordered_set grouping) in
    let places = map (places_of (fields_of c.args.columns.now)) in
    let units = units_form c.in-Rollup.units.items in
    ok_same c.ordered_sets.result (λ v. contents v.items) (in_order (contents c.deref-in-Rollup-3.result.now)) (in_order (places (group_sets (element_form c.args.group.now)))) c.ordered_sets.ensures
    (ap (λ (vs : List (Vec ℕ)). in_order (contents vs)) c.deref-in-Rollup-3.ensures.value
    ∙ ap in_order c.in_ok-rollup-in-Rollup.ensures
    ∙ ap (λ (vs : List (Vec ℕ)). in_order (rollup_sets (contents vs))) c.deref-in-Rollup-2.ensures.value
    ∙ ap (λ (us : List (List ℕ)). in_order (rollup_sets us)) (c.in_ok-units-in-Rollup.ensures ∙ ap (λ (us : List (Vec (List ℕ))). in_order (places (units_form us))) c.deref-in-Rollup.ensures.value)
    ∙ rollup_ordered grouping (places units)
    ∙ ap in_order (sym (rollup_places (fields_of c.args.columns.now) units))
    ∙ ap (λ (g : GroupingElement). in_order (places (group_sets g))) (sym (rollup_form c.in-Rollup.units) ∙ ap element_form (sym c.in-Rollup.is)))

pub returns-in_ok-cube-in-Cube : goal.returns-in_ok-cube-in-Cube
returns-in_ok-cube-in-Cube t c =
    let grouping = c.args.grouping.now in
    let in_order = map (ordered_set grouping) in
    let places = map (places_of (fields_of c.args.columns.now)) in
    let units = units_form c.in-Cube.units.items in
    ok_same c.ordered_sets-in-Cube.result (λ v. contents v.items) (in_order (contents c.deref-in-Cube-3.result.now)) (in_order (places (group_sets (element_form c.args.group.now)))) c.ordered_sets-in-Cube.ensures
    (ap (λ (vs : List (Vec ℕ)). in_order (contents vs)) c.deref-in-Cube-3.ensures.value
    ∙ ap in_order c.in_ok-cube-in-Cube.ensures
    ∙ ap (λ (vs : List (Vec ℕ)). in_order (cube_sets (contents vs))) c.deref-in-Cube-2.ensures.value
    ∙ ap (λ (us : List (List ℕ)). in_order (cube_sets us)) (c.in_ok-units-in-Cube.ensures ∙ ap (λ (us : List (Vec (List ℕ))). in_order (places (units_form us))) c.deref-in-Cube.ensures.value)
    ∙ cube_ordered grouping (places units)
    ∙ ap in_order (sym (cube_places (fields_of c.args.columns.now) units))
    ∙ ap (λ (g : GroupingElement). in_order (places (group_sets g))) (sym (cube_form c.in-Cube.units) ∙ ap element_form (sym c.in-Cube.is)))
