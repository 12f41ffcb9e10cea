use Rattle.std.proofs.Common.{◌≡◌, ◌∙◌, ◌++◌, ◌∷◌, [], ℕ, List, Bool, true, false, ap}
use Rattle.std.specs.Global.{Vec}
use Rattle.std.specs.List.{list_any}
use Rattle.std.specs.Str.{bytes_eq}
use Rattle.std.proofs.lemmas.List.{map-append}
use Rattle.query_resolve.specs.Resolution.{contents}
use Rattle.query_resolve.proofs.DistinctSets.{repeats_turn}
use Rattle.query_resolve.proofs.repeats.without_repeats.Goals as goal
use Rattle.query_resolve.proofs.repeats.without_repeats.Goals.{then-not-has_set+in_ok-copy_set+in_ok-push, else-not-has_set}

pub loop-set-preserved : goal.loop-set-preserved
loop-set-preserved c =
    let found = c.loop-set.found.items in
    let s = c.set-item.result in
    let told : (met : Bool) → met ≡ list_any (λ (u : Vec ℕ). bytes_eq u.items c.deref-in-loop-set.result.now) c.deref.result.now → met ≡ list_any (λ (u : Vec ℕ). bytes_eq u.items s.items) found = λ met e.
    e
    ∙ ap (λ (vs : List (Vec ℕ)). list_any (λ (u : Vec ℕ). bytes_eq u.items c.deref-in-loop-set.result.now) vs) c.deref.ensures.value
    ∙ ap (λ (z : List ℕ). list_any (λ (u : Vec ℕ). bytes_eq u.items z) found) c.deref-in-loop-set.ensures.value in
    let turn = repeats_turn c.args.sets.now found c.loop-set.set-index s in
    elim c.if-not-has_set.branch [
      | then-not-has_set+in_ok-copy_set+in_ok-push w ↦
          let copy : w.in_ok-copy_set.field-0.items ≡ s.items = w.in_ok-copy_set.ensures ∙ w.deref-then-not-has_set.ensures.value in
          ap (λ (v : Vec (Vec ℕ)). contents v.items) w.found-is
          ∙ ap contents w.in_ok-push.ensures.items
          ∙ map-append (λ (u : Vec ℕ). u.items) found (w.in_ok-copy_set.field-0 ∷ [])
          ∙ ap (λ (z : List ℕ). contents found ++ z ∷ []) copy
          ∙ turn false c.loop-set-test.true c.set-item.is c.loop-set.invariant (told false w.if-not-has_set.ensures)
      | else-not-has_set w ↦
          ap (λ (v : Vec (Vec ℕ)). contents v.items) w.found-is
          ∙ turn true c.loop-set-test.true c.set-item.is c.loop-set.invariant
          (told true w.if-not-has_set.ensures)
    ]
