use Rattle.std.proofs.Common.{◌≡◌, ◌∙◌, ◌++◌, ◌∷◌, ◌<◌, [], true, false, take, get_or, length, sym, ap, arith}
use Rattle.std.specs.Global.{Vec}
use Rattle.std.specs.List.{list_any}
use Rattle.std.proofs.lemmas.List.{get_or-map, length-map, map-append}
use Rattle.std.specs.Borrow.{Bor}
use Rattle.query_ast.specs.declared.expression.Predicate.{Predicate}
use Rattle.query_ast.specs.Syntax.{predicate_form}
use Rattle.semantics.specs.Inside.Same.{same_predicate}
use Rattle.query_resolve.specs.Planning.{filter_forms}
use Rattle.semantics.specs.Lists.{distinct}
use Rattle.query_resolve.proofs.Distinct.{distinct_known, distinct_new}
use Rattle.query_resolve.proofs.SameTrees.{predicates_are_same}
use Rattle.query_resolve.proofs.plan.distinct_filters.Goals as goal
use Rattle.query_resolve.proofs.plan.distinct_filters.Goals.{then-not-has_filter+in_ok-push, else-not-has_filter}

pub loop-filter-preserved : goal.loop-filter-preserved
loop-filter-preserved c =
    let xs = filter_forms c.args.filters.now in
    let i = c.loop-filter.filter-index in
    let z = predicate_form c.filter-item.result.now in
    let below : i < length xs = let n = length-map c.args.filters.now (λ (f : Bor Predicate). predicate_form f.now) in let m = c.loop-filter-test.true in omega (arith, n, m) in
    let there : z ≡ get_or xs i z =
    ap (λ (f : Bor Predicate). predicate_form f.now) c.filter-item.is
    ∙ sym (get_or-map (λ (f : Bor Predicate). predicate_form f.now) c.args.filters.now i c.filter-item.result z c.loop-filter-test.true) in
    let so_far : filter_forms c.deref.result.now ≡ distinct same_predicate (take i xs) = ap filter_forms c.deref.ensures.value ∙ c.loop-filter.invariant in
    elim c.if-not-has_filter.branch [
      | then-not-has_filter+in_ok-push w ↦
          let none : list_any (λ y. same_predicate y z) (distinct same_predicate (take i xs)) ≡ false = ap (list_any (λ y. same_predicate y z)) (sym so_far) ∙ sym w.if-not-has_filter.ensures in
          ap (λ (v : Vec (Bor Predicate)). filter_forms v.items) w.found-is ∙ ap filter_forms w.in_ok-push.ensures.items ∙ map-append (λ (f : Bor Predicate). predicate_form f.now) c.loop-filter.found.items (c.filter-item.result ∷ [])
          ∙ ap (λ ys. ys ++ z ∷ []) c.loop-filter.invariant ∙ distinct_new same_predicate predicates_are_same xs i z below there none
      | else-not-has_filter w ↦
          let met : list_any (λ y. same_predicate y z) (distinct same_predicate (take i xs)) ≡ true = ap (list_any (λ y. same_predicate y z)) (sym so_far) ∙ sym w.if-not-has_filter.ensures in
          ap (λ (v : Vec (Bor Predicate)). filter_forms v.items) w.found-is ∙ c.loop-filter.invariant ∙ distinct_known same_predicate predicates_are_same xs i z below there met
    ]
