use Rattle.std.proofs.Common.{ℕ, List, ◌∙◌, ◌++◌, ap}
use Rattle.std.specs.Global.{Vec}
use Rattle.std.specs.List.{flat_map}
use Rattle.std.proofs.lemmas.List.Elements.{filter_map-append}
use Rattle.values.specs.Schema.{fields_of}
use Rattle.query_ast.specs.Syntax.{units_form}
use Rattle.semantics.specs.Names.{place_of, places_of}
use Rattle.query_resolve.proofs.Rows.{appended_turn}
use Rattle.query_resolve.proofs.grouping_columns.push_unit_places.Goals as goal

pub loop-unit-preserved : goal.loop-unit-preserved
loop-unit-preserved c =
    let fields = fields_of c.args.columns.now in
    appended_turn (λ (u : Vec (List ℕ)). places_of fields u.items) (λ us. places_of fields (flat_map (λ unit. unit) (units_form us)))
    (λ u us. filter_map-append (place_of fields) u.items (flat_map (λ unit. unit) (units_form us)))
    c.args.units.now c.loop-unit.unit-index c.unit-item.result c.loop-unit-test.true c.unit-item.is
    c.loop-unit.places.items c.push_places.new.places.items _
    (c.in_ok-push_places.ensures ∙ ap (λ (ns : List (List ℕ)). c.loop-unit.places.items ++ places_of fields ns) c.deref.ensures.value)
    c.loop-unit.invariant
