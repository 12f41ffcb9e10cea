use Rattle.std.proofs.Common.{◌≡◌, ◌∙◌, ◌%◌, ◌<◌, ◌+◌, ◌-◌, ◌++◌, ◌∷◌, [], vec_len, length, set, sym, ap, subst, arith}
use Rattle.std.proofs.lemmas.Nat.{mod_below}
use Rattle.crossbeam_deque.proofs.Lists.{at_index}
use Rattle.pool.specs.Seen.{Seen}
use Rattle.pool.specs.Views.{Offer, next_seat, offer_with}
use Rattle.pool.specs.Inside.Assembly.{Seating}
use Rattle.pool.proofs.Assemblies.{seated_more, next_place}
use Rattle.pool.proofs.seats.seat_all.Goals as goal

pub seat-requires : goal.seat-requires
seat-requires c =
    let inv = c.loop-e.invariant in
    let at = c.requires.at in
    let s = inv.2 at.0 at.1.0 at.1.1 in
    let ok = c.loop-e.sources.ok in
    let n = c.len-hands.ensures in
    let t = c.loop-e-test.true in
    let low : c.loop-e.e < length c.loop-e.sources.items = omega (arith, ok, n, t, inv.0) in
    let g = s.gives c.loop-e.e c.index_mut-source.result.now (at_index c.loop-e.sources.items c.loop-e.e c.index_mut-source.result.now low c.index_mut-source.ensures.value) in
    let made = g.4 (omega arith) in
    let p = c.requires.place.1 in
    omega (arith, made, g.1, p)

pub loop-e-preserved : goal.loop-e-preserved
loop-e-preserved c =
    let inv = c.loop-e.invariant in
    let hands = vec_len c.args.sources.now in
    let r = c.args.r in
    let e = c.loop-e.e in
    let n = c.len-hands.ensures in
    let t = (e + c.len-hands.result - r) % c.len-hands.result in
    let is : (c.loop-e.e + c.len-hands.result - c.args.r) % c.len-hands.result ≡ (c.loop-e.e + vec_len c.args.sources.now - c.args.r) % vec_len c.args.sources.now = ap (λ m. (c.loop-e.e + m - c.args.r) % m) n in
    let o = c.index_mut-source.result.now in
    let ss = c.index_mut-round.result.now in
    let oks = c.loop-e.sources.ok in
    let okr = c.loop-e.rounds.ok in
    let test = c.loop-e-test.true in
    let low : c.loop-e.e < length c.loop-e.sources.items = omega (arith, oks, n, test, inv.0) in
    let below : c.loop-e.e < vec_len c.args.sources.now = omega (arith, n, test) in
    let b = mod_below (c.loop-e.e + vec_len c.args.sources.now - c.args.r) (vec_len c.args.sources.now) (omega arith) in
    let few : (c.loop-e.e + c.len-hands.result - c.args.r) % c.len-hands.result < length c.loop-e.rounds.items = omega (arith, okr, inv.1, b, is) in
    let at_deque = at_index c.loop-e.sources.items e o low c.index_mut-source.ensures.value in
    let at_round = at_index c.loop-e.rounds.items t ss few c.index_mut-round.ensures.value in
    let pushed : c.push.new.self ≡ ss ++ next_seat o ∷ [] = c.in_ok-push.ensures ∙ ap (λ (s : Seen). ss ++ s ∷ []) c.in_ok-seat.ensures.seat in (
      inv.0,
      inv.1,
      λ pieces names s0.
          subst (λ (q : Offer). Seating names hands pieces r (e + 1) (set c.loop-e.sources.items e q) (set c.loop-e.rounds.items t c.push.new.self)) (sym c.in_ok-seat.ensures.left)
          (subst (λ q. Seating names hands pieces r (e + 1) (set c.loop-e.sources.items e (offer_with o (o.made + 1))) (set c.loop-e.rounds.items t q)) (sym pushed)
          (seated_more names hands pieces r e t c.loop-e.sources.items c.loop-e.rounds.items o ss c.requires.place.0 c.requires.place.1 below is at_deque at_round (inv.2 pieces names s0))),
    )

pub returns-clause-at : goal.returns-clause-at
returns-clause-at c pieces at =
    let all = c.loop-e-test.false in
    let n = c.len-hands.ensures in
    let low = c.requires.place.1 in
    (at.0, next_place at.0 (vec_len c.args.sources.now) pieces c.args.r c.loop-e.e c.loop-e.sources.items c.loop-e.rounds.items (omega (arith, low)) (omega (arith, all, n)) (c.loop-e.invariant.2 pieces at.0 at.1))
