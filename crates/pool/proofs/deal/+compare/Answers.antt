use Rattle.std.proofs.Common.{◌≡◌, ◌∙◌, ◌∷◌, ℕ, ◌-◌, ◌<◌, List, length, rules, ap, sym, subst, arith}
use Rattle.crossbeam_deque.specs.Handles.{worker_view, view, Pass}
use Rattle.std.specs.declared.alloc.Global.{Global}
use Rattle.pool.specs.declared.view.View.{View}
use Rattle.pool.specs.declared.view.Task.{Task}
use Rattle.pool.specs.Steps.{lent_view}
use Rattle.pool.specs.Seen.{Seen}
use mathlib.Core.Option.{some, some-injective}
use lib.ListN.{get_elem?}
use Rattle.crossbeam_deque.proofs.Lists.{at_index}
use Rattle.crossbeam_deque.specs.Handles.{worker_deque}
use Rattle.pool.specs.Rule.{IsSeated}
use Rattle.pool.specs.Holding.{Holding}
use Rattle.pool.specs.Inside.Looks.{AllReach, OneRun, history_in, seats_from}
use Rattle.pool.proofs.Rounds.{at_less}
use Rattle.pool.proofs.Rules.{seals, lends, learns_together}
use Rattle.pool.proofs.Looks.{second, knows_two, run_two}
use Rattle.pool.proofs.deal.+compare.Goals as goal

abbrev view_in : Pass Task View Global → View
view_in p = view p

pub StealHandle::lend-another-blank-requires : goal.StealHandle::lend-another-blank-requires
StealHandle::lend-another-blank-requires t c = seals _ _

pub StealHandle::lend-give_back-back-requires-clause-second : goal.StealHandle::lend-give_back-back-requires-clause-second
StealHandle::lend-give_back-back-requires-clause-second t c =
    let w = view_in c.self.inside.pass in
    let v0 = worker_view c.args.worker.now in
    let v1 = worker_view c.another-blank.new.self in
    let v2 = worker_view c.absorb.new.self in
    let at = ap (λ (s : Seen). s.place) c.self.view_is ∙ c.requires.place.0 in
    let lent = c.absorb.ensures.rule ∙ ap (λ (u : View). lent_view v1 u) (ap view_in c.replace-pass.ensures.value) in
    second c.args.place v0 v1 v2 w c.requires.place.1 c.requires.owner c.another-blank.ensures.rule.0 c.self.invariant.2 at lent (worker_view c.compare.new.worker) c.compare.ensures.looked

pub StealHandle::lend-compare-requires : goal.StealHandle::lend-compare-requires
StealHandle::lend-compare-requires t c =
    let w = view_in c.self.inside.pass in
    let v0 = worker_view c.args.worker.now in
    let v1 = worker_view c.another-blank.new.self in
    let v2 = worker_view c.absorb.new.self in
    let at = ap (λ (s : Seen). s.place) c.self.view_is ∙ c.requires.place.0 in
    let lent = c.absorb.ensures.rule ∙ ap (λ (u : View). lent_view v1 u) (ap view_in c.replace-pass.ensures.value) in
    let deque = c.absorb.ensures.same.0.0 ∙ c.another-blank.ensures.same.0.0 in
    let same = ap (λ (u : View). u.numbers) c.absorb.ensures.rule ∙ ap (λ (u : View). u.numbers) c.another-blank.ensures.rule.0 in
    let move : (r : ℕ) (hs : List Holding) → AllReach (worker_deque c.args.worker.now) v0.numbers r hs → AllReach (worker_deque c.absorb.new.self) v2.numbers r hs =
    λ r hs all. subst (λ q. AllReach q v2.numbers r hs) (sym deque) (subst (λ m. AllReach (worker_deque c.args.worker.now) m r hs) (sym same) all) in
    let p = c.requires.place in (
      (let d = c.decreases in omega (arith, d)),
      (
        (omega (arith, p.2), omega (arith, p.3)),
        (
          knows_two c.args.place v0 v1 v2 w c.requires.place.1 c.requires.owner c.another-blank.ensures.rule.0 c.self.invariant.2 at lent,
          (
            move (c.args.place - 1) c.args.others.now c.requires.others,
            move (length c.args.more.now) c.args.more.now c.requires.more,
          ),
        ),
      ),
    )

pub StealHandle::lend-absorb-requires-clause-rule : goal.StealHandle::lend-absorb-requires-clause-rule
StealHandle::lend-absorb-requires-clause-rule t c =
    let v1 = worker_view c.another-blank.new.self in
    let sealed = c.another-blank.ensures.rule.0 in
    let known = ap (λ (u : View). u.known) sealed ∙ c.requires.owner.2.2 in
    lends _ v1 _ _ (subst IsSeated (sym known) tt) (ap (λ (u : View). u.filling) sealed) (ap (λ p. (view_in p).owner) c.replace-pass.ensures.value ∙ c.self.invariant.2.1)

pub StealHandle::lend-returns-clause-run : goal.StealHandle::lend-returns-clause-run
StealHandle::lend-returns-clause-run t c =
    let w = view_in c.self.inside.pass in
    let v0 = worker_view c.args.worker.now in
    let v1 = worker_view c.another-blank.new.self in
    let v2 = worker_view c.absorb.new.self in
    let at = ap (λ (s : Seen). s.place) c.self.view_is ∙ c.requires.place.0 in
    let lent = c.absorb.ensures.rule ∙ ap (λ (u : View). lent_view v1 u) (ap view_in c.replace-pass.ensures.value) in
    subst (λ (s : Seen). OneRun v0 ((c.args.place, s.history) ∷ seats_from (c.args.place - 1) c.args.others.now) (seats_from (length c.args.more.now) c.args.more.now)) c.self.view_is
    (run_two c.args.place v0 v1 v2 w c.requires.place.1 c.requires.owner c.another-blank.ensures.rule.0 c.self.invariant.2 at lent _ _ c.compare.ensures.run)

pub compare-index_mut-handle-requires : goal.compare-index_mut-handle-requires
compare-index_mut-handle-requires t c =
    let cases = c.in-Some.ensures.cases.0 in
    let all = subst (λ l. AllReach (worker_deque c.args.worker.now) (worker_view c.args.worker.now).numbers c.args.place l) cases c.requires.hands in
    let s = all.0.1.0 in
    let there : get_elem? c.hand.inside.others.items (c.args.place - 1) ≡ some s = subst (λ (h : Holding). get_elem? h.others (c.args.place - 1) ≡ some s) (sym c.hand.view_is) all.0.1.1 in
    let below : c.args.place - 1 < length c.hand.inside.others.items = at_less c.hand.inside.others.items (c.args.place - 1) s there in
    search (rules, below)

pub compare-lend-requires : goal.compare-lend-requires
compare-lend-requires t c =
    let cases = c.in-Some.ensures.cases.0 in
    let all = subst (λ l. AllReach (worker_deque c.args.worker.now) (worker_view c.args.worker.now).numbers c.args.place l) cases c.requires.hands in
    let s = all.0.1.0 in
    let there : get_elem? c.hand.inside.others.items (c.args.place - 1) ≡ some s = subst (λ (h : Holding). get_elem? h.others (c.args.place - 1) ≡ some s) (sym c.hand.view_is) all.0.1.1 in
    let below : c.args.place - 1 < length c.hand.inside.others.items = at_less c.hand.inside.others.items (c.args.place - 1) s there in
    let is : c.index_mut-handle.result.now ≡ s = some-injective c.index_mut-handle.result.now s (sym (at_index c.hand.inside.others.items (c.args.place - 1) c.index_mut-handle.result.now below c.index_mut-handle.ensures.value) ∙ there) in
    let count = ap (λ (l : List Holding). length l) cases in
    let p = c.requires.place in (
      (let d = c.decreases in omega (arith, d, count)),
      (
        (ap (λ (u : Seen). u.place) is ∙ all.0.1.4, all.0.0, omega (arith, count, p.0), p.1),
        (
          ap (λ (u : Seen). u.deque) is ∙ all.0.1.2,
          (
            ap (λ (u : Seen). u.numbers) is ∙ all.0.1.3,
            (
              c.requires.owner,
              (
                all.1,
                c.requires.more,
              ),
            ),
          ),
        ),
      ),
    )

pub compare-returns-in-Some-clause-run : goal.compare-returns-in-Some-clause-run
compare-returns-in-Some-clause-run t c =
    let cases = c.in-Some.ensures.cases.0 in
    let all = subst (λ l. AllReach (worker_deque c.args.worker.now) (worker_view c.args.worker.now).numbers c.args.place l) cases c.requires.hands in
    let s = all.0.1.0 in
    let there : get_elem? c.hand.inside.others.items (c.args.place - 1) ≡ some s = subst (λ (h : Holding). get_elem? h.others (c.args.place - 1) ≡ some s) (sym c.hand.view_is) all.0.1.1 in
    let below : c.args.place - 1 < length c.hand.inside.others.items = at_less c.hand.inside.others.items (c.args.place - 1) s there in
    let is : c.index_mut-handle.result.now ≡ s = some-injective c.index_mut-handle.result.now s (sym (at_index c.hand.inside.others.items (c.args.place - 1) c.index_mut-handle.result.now below c.index_mut-handle.ensures.value) ∙ there) in
    let v = worker_view c.args.worker.now in
    let rest = seats_from (length c.args.more.now) c.args.more.now in
    let e = ap (λ (u : Seen). u.history) is ∙ sym (ap history_in all.0.1.1) in
    subst (λ l. OneRun v (seats_from c.args.place l) rest) (sym cases) (subst (λ l. OneRun v ((c.args.place, l) ∷ seats_from (c.args.place - 1) c.in-Some.rest.now) rest) e c.lend.ensures.run)

pub compare-len_as-requires : goal.compare-len_as-requires
compare-len_as-requires t c =
    let ka = c.requires.owner in
    learns_together _ (worker_view c.args.worker.now) ka.1 (subst IsSeated (sym ka.2.2) tt)
