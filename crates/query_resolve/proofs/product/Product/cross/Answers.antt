use Rattle.std.proofs.Common.{◌∙◌, ◌++◌, ◌∷◌, [], ℕ, List, map, ap}
use Rattle.std.specs.Global.{Vec}
use Rattle.semantics.specs.Sets.{cross_product, ordered_set}
use Rattle.query_resolve.specs.Resolution.{contents}
use Rattle.query_resolve.proofs.Products.{common_more, sets_more}
use Rattle.query_resolve.proofs.Rows.{only_one}
use Rattle.query_resolve.proofs.product.Product.cross.Goals as goal

pub returns-in_ok-extend_from_slice : goal.returns-in_ok-extend_from_slice
returns-in_ok-extend_from_slice c = λ grouping.
    let sets = contents c.self.inside.sets.items in
    let common = c.self.inside.common.items in
    let set = c.set-item.result.items in
    ap (map (ordered_set grouping))
    (ap (λ (all : List ℕ). cross_product sets (all ∷ [])) c.in_ok-extend_from_slice.ensures.items
    ∙ ap (λ (one : List ℕ). cross_product sets ((common ++ one) ∷ [])) c.deref.ensures.value
    ∙ common_more sets common set
    ∙ ap (λ (ss : List (List ℕ)). cross_product ss (set ∷ [])) c.self.view_is
    ∙ ap (λ (vs : List (Vec ℕ)). cross_product c.args.self.now (contents vs)) (only_one c.args.sets.now c.set-item.result c.in-len1.len_at_least c.in-len1.len_below c.set-item.is))

pub returns-in_ok-self-inside : goal.returns-in_ok-self-inside
returns-in_ok-self-inside c = λ grouping.
    let sets = contents c.self.inside.sets.items in
    let common = c.self.inside.common.items in
    let more = contents c.args.sets.now in
    ap (λ (ss : List (List ℕ)). map (ordered_set grouping) (cross_product ss (common ∷ [])))
    (c.in_ok-self-inside.ensures ∙ ap (λ (vs : List (Vec ℕ)). cross_product (contents vs) more) c.deref-in_default.ensures.value)
    ∙ sets_more grouping sets more common
    ∙ ap (λ (ss : List (List ℕ)). map (ordered_set grouping) (cross_product ss more)) c.self.view_is
