use Rattle.std.proofs.Common.{◌∙◌, ◌++◌, ℕ, List, map, refl, ap}
use Rattle.std.specs.Global.{Vec}
use Rattle.std.proofs.lemmas.List.{map-append}
use Rattle.semantics.specs.Sets.{cross_product}
use Rattle.query_resolve.specs.Resolution.{contents}
use Rattle.query_resolve.proofs.Rows.{appended_turn}
use Rattle.query_resolve.proofs.union.cross_product.Goals as goal

pub loop-first-preserved : goal.loop-first-preserved
loop-first-preserved c =
    let seconds = contents c.args.seconds.now in
    appended_turn (λ (first : Vec ℕ). map (λ s. first.items ++ s) seconds) (λ fs. cross_product (contents fs) seconds) (λ first fs. refl)
    c.args.firsts.now c.loop-first.first-index c.first-item.result c.loop-first-test.true c.first-item.is
    (contents c.loop-first.sets.items) (contents c.append.new.self.items) _
    (ap contents c.in_ok-append.ensures.items
    ∙ map-append (λ (s : Vec ℕ). s.items) c.loop-first.sets.items c.in_ok-joined.joined.items
    ∙ ap (λ (ts : List (List ℕ)). contents c.loop-first.sets.items ++ ts) (c.in_ok-joined.ensures ∙ ap (λ (u : List ℕ). map (λ s. u ++ s) seconds) c.deref.ensures.value))
    c.loop-first.invariant
