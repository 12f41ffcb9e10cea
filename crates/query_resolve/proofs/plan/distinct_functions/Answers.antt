use Rattle.std.proofs.Common.{◌≡◌, ◌∙◌, ◌++◌, ◌∷◌, ◌<◌, [], true, false, take, get_or, length, sym, ap, arith}
use Rattle.std.specs.Global.{Vec}
use Rattle.std.specs.List.{list_any}
use Rattle.std.proofs.lemmas.List.{get_or-map, length-map, map-append}
use Rattle.query_resolve.specs.declared.plan.Planned.{Planned}
use Rattle.semantics.specs.Inside.Same.{same_planned}
use Rattle.query_resolve.specs.Planning.{planned_form, planned_forms}
use Rattle.semantics.specs.Lists.{distinct}
use Rattle.query_resolve.proofs.Distinct.{distinct_known, distinct_new}
use Rattle.query_resolve.proofs.SameTrees.{planned_are_same}
use Rattle.query_resolve.proofs.plan.distinct_functions.Goals as goal
use Rattle.query_resolve.proofs.plan.distinct_functions.Goals.{then-not-has_function+in_ok-push, else-not-has_function}

pub loop-function-preserved : goal.loop-function-preserved
loop-function-preserved c =
    let xs = planned_forms c.args.functions.now in
    let i = c.loop-function.function-index in
    let z = planned_form c.function-item.result in
    let below : i < length xs = let n = length-map c.args.functions.now (λ (f : Planned). planned_form f) in let m = c.loop-function-test.true in omega (arith, n, m) in
    let there : z ≡ get_or xs i z =
    ap (λ (f : Planned). planned_form f) c.function-item.is
    ∙ sym (get_or-map (λ (f : Planned). planned_form f) c.args.functions.now i c.function-item.result z c.loop-function-test.true) in
    let so_far : planned_forms c.deref.result.now ≡ distinct same_planned (take i xs) = ap planned_forms c.deref.ensures.value ∙ c.loop-function.invariant in
    elim c.if-not-has_function.branch [
      | then-not-has_function+in_ok-push w ↦
          let none : list_any (λ y. same_planned y z) (distinct same_planned (take i xs)) ≡ false = ap (list_any (λ y. same_planned y z)) (sym so_far) ∙ sym w.if-not-has_function.ensures in
          ap (λ (v : Vec Planned). planned_forms v.items) w.found-is ∙ ap planned_forms w.in_ok-push.ensures.items ∙ map-append (λ (f : Planned). planned_form f) c.loop-function.found.items (c.function-item.result ∷ [])
          ∙ ap (λ ys. ys ++ z ∷ []) c.loop-function.invariant ∙ distinct_new same_planned planned_are_same xs i z below there none
      | else-not-has_function w ↦
          let met : list_any (λ y. same_planned y z) (distinct same_planned (take i xs)) ≡ true = ap (list_any (λ y. same_planned y z)) (sym so_far) ∙ sym w.if-not-has_function.ensures in
          ap (λ (v : Vec Planned). planned_forms v.items) w.found-is ∙ c.loop-function.invariant ∙ distinct_known same_planned planned_are_same xs i z below there met
    ]
