use Rattle.std.proofs.Common.{◌≡◌, ◌∙◌, ◌<◌, List, length, set, get_or, sym, ap, subst, arith}
use Rattle.std.proofs.lemmas.List.{with_items_is}
use Rattle.crossbeam_deque.proofs.Lists.{at_index}
use Rattle.pool.specs.Holding.{Holding}
use Rattle.pool.specs.Settled.{AreAll}
use Rattle.pool.proofs.Nexts.{all_next}
use Rattle.test_pool.proofs.tests.is_spent_late.Goals as goal

pub settled-late-requires : goal.settled-late-requires
settled-late-requires c = record { deal = subst AreAll (sym c.as_mut_slice.ensures.value) c.requires.deal }

pub returns-then-eq-clause-deal : goal.returns-then-eq-clause-deal
returns-then-eq-clause-deal c =
    let items = c.args.hands.now.items in
    let same = c.settled-late.ensures.same ∙ c.as_mut_slice.ensures.value in
    let count = ap (λ (l : List Holding). length l) same in
    let ok = c.args.hands.now.ok in
    let low = c.requires.low in
    let whole = with_items_is c.args.hands.now c.settled-late.new.hands (omega (arith, count, ok)) ∙ same in
    let below : c.args.k < length items = omega (arith, low, ok) in
    let hand = c.index_mut-hand.result.now in
    let value = subst (λ l. hand ≡ get_or l c.args.k hand) whole c.index_mut-hand.ensures.value in
    subst (λ (l : List Holding). AreAll (set l c.args.k c.next.new.self)) (sym whole)
    (all_next items c.args.k hand c.next.new.self c.next.result (at_index items c.args.k hand below value) c.next.ensures.answer c.next.ensures.holding c.requires.deal)

pub returns-else-eq-clause-deal : goal.returns-else-eq-clause-deal
returns-else-eq-clause-deal c =
    let items = c.args.hands.now.items in
    let same = c.settled-late.ensures.same ∙ c.as_mut_slice.ensures.value in
    let count = ap (λ (l : List Holding). length l) same in
    let ok = c.args.hands.now.ok in
    let low = c.requires.low in
    let whole = with_items_is c.args.hands.now c.settled-late.new.hands (omega (arith, count, ok)) ∙ same in
    let below : c.args.k < length items = omega (arith, low, ok) in
    let hand = c.index_mut-hand.result.now in
    let value = subst (λ l. hand ≡ get_or l c.args.k hand) whole c.index_mut-hand.ensures.value in
    subst (λ (l : List Holding). AreAll (set l c.args.k c.next.new.self)) (sym whole)
    (all_next items c.args.k hand c.next.new.self c.next.result (at_index items c.args.k hand below value) c.next.ensures.answer c.next.ensures.holding c.requires.deal)
