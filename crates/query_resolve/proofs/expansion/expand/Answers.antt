use Rattle.std.proofs.Common.{◌∙◌, ◌+◌, ◌∷◌, ℕ, List, drop, map, sym, ap}
use Rattle.std.proofs.lemmas.List.{at_drop_all, at_drop_more}
use Rattle.values.specs.Schema.{fields_of}
use Rattle.query_ast.specs.declared.group.GroupingElement.{GroupingElement}
use Rattle.query_ast.specs.Syntax.{element_form}
use Rattle.semantics.specs.Names.{places_of}
use Rattle.semantics.specs.Sets.{cross_product, expansion, group_sets, ordered_set}
use Rattle.query_resolve.specs.Resolution.{contents}
use Rattle.query_resolve.proofs.Expansions.{crossed_places}
use Rattle.query_resolve.proofs.Products.{crossed_end, crossed_start, crossed_turn}
use Rattle.query_resolve.proofs.Rows.{map_twice, ok_same}
use Rattle.query_resolve.proofs.expansion.expand.Goals as goal

pub loop-group-init : goal.loop-group-init
loop-group-init c =
    let in_order = map (ordered_set c.args.grouping.now) in
    let all = map (places_of (fields_of c.args.columns.now)) (expansion (map element_form c.args.groups.now)) in
    ap (λ (ss : List (List ℕ)). in_order (cross_product ss all)) c.in_ok-product.ensures ∙ ap in_order (crossed_start all)

pub loop-group-preserved : goal.loop-group-preserved
loop-group-preserved c =
    let grouping = c.args.grouping.now in
    let in_order = map (ordered_set grouping) in
    let fields = fields_of c.args.columns.now in
    let groups = c.args.groups.now in
    let i = c.loop-group.group-index in
    let old = c.loop-group.product in
    let of_group = group_sets (element_form c.group-item.result) in
    let of_others = expansion (map element_form (drop (i + 1) groups)) in
    let whole = λ (gs : List GroupingElement). in_order (cross_product old (map (places_of fields) (expansion (map element_form gs)))) in
    crossed_turn grouping old c.cross.new.self (contents c.deref.result.now) (map (places_of fields) of_group) (map (places_of fields) of_others)
    (c.in_ok-cross.ensures grouping)
    (ap contents c.deref.ensures.value ∙ c.in_ok-group_sets.ensures)
    ∙ ap (λ (ss : List (List ℕ)). in_order (cross_product old ss)) (sym (crossed_places fields of_group of_others))
    ∙ sym (at_drop_more whole groups i c.group-item.result c.loop-group-test.true ∙ ap (λ (g : GroupingElement). whole (g ∷ drop (i + 1) groups)) (sym c.group-item.is))
    ∙ c.loop-group.invariant

pub returns : goal.returns
returns c =
    let in_order = map (ordered_set c.args.grouping.now) in
    let places = places_of (fields_of c.args.columns.now) in
    let groups = c.args.groups.now in
    let product = c.loop-group.product in
    let whole = λ (gs : List GroupingElement). in_order (cross_product product (map places (expansion (map element_form gs)))) in
    ok_same c.sets_in_order.result (λ v. contents v.items) (in_order product) (map (λ names. ordered_set c.args.grouping.now (places names)) (expansion (map element_form groups))) c.sets_in_order.ensures
    (ap in_order (sym (crossed_end product))
    ∙ sym (at_drop_all whole groups c.loop-group.group-index c.loop-group-test.false)
    ∙ c.loop-group.invariant
    ∙ map_twice (ordered_set c.args.grouping.now) places (expansion (map element_form groups)))
