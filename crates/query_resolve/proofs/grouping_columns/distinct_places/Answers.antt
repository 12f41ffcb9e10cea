use Rattle.std.proofs.Common.{◌≡◌, ◌∙◌, ◌==◌, ◌++◌, ◌∷◌, [], ℕ, List, Bool, true, false, take, get_or, sym, ap}
use Rattle.std.specs.Global.{Vec}
use Rattle.std.specs.List.{list_any}
use Rattle.semantics.specs.Lists.{distinct}
use Rattle.query_resolve.proofs.Distinct.{distinct_known, distinct_new, same_place, same_read}
use Rattle.query_resolve.proofs.grouping_columns.distinct_places.Goals as goal
use Rattle.query_resolve.proofs.grouping_columns.distinct_places.Goals.{then-not-contains+in_ok-push, else-not-contains}

pub loop-place-preserved : goal.loop-place-preserved
loop-place-preserved c =
    let xs = c.args.places.now in
    let i = c.loop-place.place-index in
    let z = get_or xs i 0 in
    let same : ℕ → ℕ → Bool = λ a b. a == b in
    let so_far : c.deref.result.now ≡ distinct same (take i xs) = c.deref.ensures.value ∙ c.loop-place.invariant in
    let there = same_read xs i 0 z c.loop-place-test.true in
    elim c.if-not-contains.branch [
      | then-not-contains+in_ok-push w ↦
          let none : list_any (λ y. same y z) (distinct same (take i xs)) ≡ false = ap (list_any (λ y. same y z)) (sym so_far) ∙ sym w.if-not-contains.ensures.value in
          ap (λ (v : Vec ℕ). v.items) w.found-is ∙ w.in_ok-push.ensures.items ∙ ap (λ (ys : List ℕ). ys ++ z ∷ []) c.loop-place.invariant ∙ distinct_new same same_place xs i z c.loop-place-test.true there none
      | else-not-contains w ↦
          let met : list_any (λ y. same y z) (distinct same (take i xs)) ≡ true = ap (list_any (λ y. same y z)) (sym so_far) ∙ sym w.if-not-contains.ensures.value in
          ap (λ (v : Vec ℕ). v.items) w.found-is ∙ c.loop-place.invariant ∙ distinct_known same same_place xs i z c.loop-place-test.true there met
    ]
