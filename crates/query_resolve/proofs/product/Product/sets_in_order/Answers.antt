use Rattle.std.proofs.Common.{◌∙◌, ◌∷◌, [], ℕ, List, map, ap}
use Rattle.std.specs.Global.{Vec}
use Rattle.semantics.specs.Sets.{cross_product, ordered_set}
use Rattle.query_resolve.specs.Resolution.{contents}
use Rattle.query_resolve.proofs.Products.{crossed_right}
use Rattle.query_resolve.proofs.Rows.{ok_same}
use Rattle.query_resolve.proofs.product.Product.sets_in_order.Goals as goal

pub returns : goal.returns
returns c =
    let grouping = c.args.grouping.now in
    let in_order = map (ordered_set grouping) in
    let sets = contents c.self.inside.sets.items in
    let common = c.self.inside.common.items in
    ok_same c.ordered_sets.result (λ v. contents v.items) (in_order (contents c.deref-4.result.now)) (in_order c.args.self.now) c.ordered_sets.ensures
    (ap (λ (vs : List (Vec ℕ)). in_order (contents vs)) c.deref-4.ensures.value
    ∙ ap in_order c.in_ok-sets.ensures
    ∙ ap (λ (vs : List (Vec ℕ)). in_order (cross_product (contents vs) (contents c.deref-3.result.now))) c.deref-2.ensures.value
    ∙ ap (λ (vs : List (Vec ℕ)). in_order (cross_product sets (contents vs))) c.deref-3.ensures.value
    ∙ ap (λ (ss : List (List ℕ)). in_order (cross_product sets ss)) c.in_ok-one_set.ensures
    ∙ ap (λ (s : List ℕ). in_order (cross_product sets (s ∷ []))) c.in_ok-common.ensures
    ∙ ap (λ (s : List ℕ). in_order (cross_product sets (ordered_set grouping s ∷ []))) c.deref.ensures.value
    ∙ crossed_right grouping sets (common ∷ [])
    ∙ ap in_order c.self.view_is)
