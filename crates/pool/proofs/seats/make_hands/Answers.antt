use Rattle.std.proofs.Common.{◌≡◌, ◌∙◌, ◌<◌, suc, ◌+◌, ⊎_elim, sym, ap, subst, arith, refl, vec_len}
use mathlib.Core.Option.{some, some-ne-none}
use lib.ListN.{get_elem?}
use Rattle.pool.specs.Views.{owned_first}
use Rattle.pool.specs.Hands.{new_holding}
use Rattle.pool.specs.Settled.{Belongs}
use Rattle.pool.specs.Inside.Assembly.{Gives, Gets}
use Rattle.pool.specs.Assembly.{IsFresh}
use Rattle.pool.proofs.Assemblies.{at_end, fresh_holding, fresh_belongs, fresh_is, new_deal}
use Rattle.pool.proofs.seats.make_hands.Goals as goal

pub loop-source-init : goal.loop-source-init
loop-source-init c =
    let s = c.into_iter-source-iterator.ensures.into_iter_gives in
    let rest = c.into_iter-rest.ensures in
    let none = c.new-made.ensures in
    let at = c.requires.at in
    let z : vec_len c.new-made.result ≡ 0 = none.len in
    let ok = c.args.rounds.ok in
    let rounds = at.1.rounds in
    let rl = rest.len in (
      omega (arith, z, s.1),
      omega (arith, z, ok, rounds, rl),
      (
        at.0,
        (λ j o here. let e : j ≡ vec_len c.new-made.result + j = omega (arith, z) in
            subst (λ k. Gives at.0 (vec_len c.args.sources) c.args.pieces (vec_len c.args.sources) 0 k o) e (at.1.gives j o (ap (λ l. get_elem? l j) (sym s.0) ∙ here))),
        (λ j ss here. let e : j ≡ vec_len c.new-made.result + j = omega (arith, z) in
            subst (λ k. Gets at.0 (vec_len c.args.sources) c.args.pieces (vec_len c.args.sources) 0 k ss) e (at.1.gets j ss (ap (λ l. get_elem? l j) (sym rest.rest) ∙ here))),
        (λ k h here. absurd (some-ne-none h (sym (subst (λ l. get_elem? l k ≡ some h) none.items here)))),
      ),
    )

pub into_local-requires : goal.into_local-requires
into_local-requires c =
    let inv = c.loop-source.invariant in
    let g = inv.2.1 0 c.in-Some.source (ap (λ l. get_elem? l 0) c.in-Some.ensures.steps.0) in
    g.4 (omega arith) ∙ sym g.1

pub first_hand-hand-requires : goal.first_hand-hand-requires
first_hand-hand-requires c =
    let inv = c.loop-source.invariant in
    let n = vec_len c.args.sources in
    let done = vec_len c.loop-source.made in
    let steps = c.in-Some.ensures.steps in
    let z : vec_len c.loop-source.made + 0 ≡ vec_len c.loop-source.made = omega arith in
    let low : vec_len c.loop-source.made < vec_len c.args.sources = omega (arith, inv.0, steps.1) in
    let g = subst (λ k. Gives inv.2.0 n c.args.pieces n 0 k c.in-Some.source) z (inv.2.1 0 c.in-Some.source (ap (λ l. get_elem? l 0) steps.0)) in
    let q = subst (λ k. Gets inv.2.0 n c.args.pieces n 0 k c.in-Some-next.round) z (inv.2.2 0 c.in-Some-next.round (ap (λ l. get_elem? l 0) c.in-Some-next.ensures.items)) in
    rw (c.len.ensures, c.len-hands.ensures, c.into_local.ensures, c.into_seats.ensures) (fresh_holding inv.2.0 n c.args.pieces done c.in-Some.source c.in-Some-next.round low g q)

pub loop-source-preserved : goal.loop-source-preserved
loop-source-preserved c =
    let inv = c.loop-source.invariant in
    let n = vec_len c.args.sources in
    let done = vec_len c.loop-source.made in
    let steps = c.in-Some.ensures.steps in
    let next = c.in-Some-next.ensures in
    let put = c.in_ok-put_last.ensures in
    let len = put.len in
    let ok = c.loop-source.made.ok in
    let nl = next.cases.1 in
    let z : vec_len c.loop-source.made + 0 ≡ vec_len c.loop-source.made = omega arith in
    let low : vec_len c.loop-source.made < vec_len c.args.sources = omega (arith, inv.0, steps.1) in
    let names = inv.2.0 in
    let g = subst (λ k. Gives inv.2.0 n c.args.pieces n 0 k c.in-Some.source) z (inv.2.1 0 c.in-Some.source (ap (λ l. get_elem? l 0) steps.0)) in
    let q = subst (λ k. Gets inv.2.0 n c.args.pieces n 0 k c.in-Some-next.round) z (inv.2.2 0 c.in-Some-next.round (ap (λ l. get_elem? l 0) next.items)) in
    let hand : c.first_hand-hand.result ≡ new_holding done n c.args.pieces (owned_first c.in-Some.source) c.in-Some-next.round =
    c.first_hand-hand.ensures.is ∙ rw (c.len.ensures, c.len-hands.ensures, c.into_local.ensures, c.into_seats.ensures) refl in
    let belongs = subst (λ h. Belongs inv.2.0 c.args.pieces n done h × IsFresh c.args.pieces h) (sym hand) (fresh_belongs inv.2.0 n c.args.pieces done c.in-Some.source c.in-Some-next.round low g q, fresh_is inv.2.0 n c.args.pieces done c.in-Some.source c.in-Some-next.round low g q) in (
      omega (arith, inv.0, steps.1, len),
      omega (arith, inv.1, nl, len),
      (
        names,
        (λ j o at. let e : vec_len c.loop-source.made + suc j ≡ vec_len c.put_last.new.all + j = omega (arith, len) in
            subst (λ k. Gives inv.2.0 n c.args.pieces n 0 k o) e (inv.2.1 (suc j) o (ap (λ l. get_elem? l (suc j)) steps.0 ∙ at))),
        (λ j ss at. let e : vec_len c.loop-source.made + suc j ≡ vec_len c.put_last.new.all + j = omega (arith, len) in
            subst (λ k. Gets inv.2.0 n c.args.pieces n 0 k ss) e (inv.2.2 (suc j) ss (ap (λ l. get_elem? l (suc j)) next.items ∙ at))),
        (λ k h at.
            ⊎_elim (λ u. inv.2.3 k h u)
            (λ u. let is : k ≡ vec_len c.loop-source.made = omega (arith, u.0, ok) in rw (is, sym u.1) belongs)
            (at_end c.loop-source.made.items c.first_hand-hand.result h k (subst (λ l. get_elem? l k ≡ some h) put.items at))),
      ),
    )

pub returns : goal.returns
returns c =
    let inv = c.loop-source.invariant in
    let end = c.in-None.ensures.steps.0 in
    let ok = c.loop-source.made.ok in
    let few = c.requires.count.1 in
    new_deal inv.2.0 (vec_len c.args.sources) c.args.pieces c.loop-source.made.items c.requires.count.0 (omega (arith, few)) (omega (arith, inv.0, end, ok)) inv.2.3
