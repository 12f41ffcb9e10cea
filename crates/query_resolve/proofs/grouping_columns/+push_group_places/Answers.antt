use Rattle.std.proofs.Common.{map}
use Rattle.std.proofs.lemmas.List.Elements.{filter_map-append}
use Rattle.values.specs.Schema.{fields_of}
use Rattle.query_ast.specs.declared.group.GroupingElement.{GroupingElement}
use Rattle.query_ast.specs.Syntax.{element_form}
use Rattle.semantics.specs.Syntax.{element_forms}
use Rattle.semantics.specs.Names.{group_names, groups_names, place_of, places_of}
use Rattle.query_resolve.proofs.Rows.{appended_turn}
use Rattle.query_resolve.proofs.grouping_columns.+push_group_places.Goals as goal

pub loop-group-preserved : goal.loop-group-preserved
loop-group-preserved t c =
    let fields = fields_of c.args.columns.now in
    appended_turn (λ (g : GroupingElement). places_of fields (group_names (element_form g))) (λ gs. places_of fields (groups_names (element_forms (map element_form gs))))
    (λ g gs. filter_map-append (place_of fields) (group_names (element_form g)) (groups_names (element_forms (map element_form gs))))
    c.deref-group-items.result.now c.loop-group.group-index c.group-item.result c.loop-group-test.true c.group-item.is
    c.loop-group.places.items c.push_group_places.new.places.items _
    c.in_ok-push_group_places-in-Sets.ensures
    c.loop-group.invariant
