use Rattle.std.proofs.Common.{◌≡◌, ◌+◌, ◌^◌, ◌<◌, vec_len, sym, subst, arith}
use Rattle.pool.specs.Reduction.{load_below}
use Rattle.pool.specs.Settled.{AreAll, pieces_of}
use Rattle.pool.specs.Assembly.{IsNewDeal}
use Rattle.pool.proofs.Fans.{all_at, new_pieces}
use Rattle.test_pool.proofs.tests.on_deal.Goals as goal

pub fan_on-requires-clause-deal : goal.fan_on-requires-clause-deal
fan_on-requires-clause-deal g c κs within =
    let d = subst (λ l. IsNewDeal c.args.pieces c.args.hands l) (sym c.into_hands.ensures) c.in-Ok.ensures in
    let p : pieces_of c.into_hands.result.items ≡ c.args.pieces = new_pieces c.args.pieces c.args.hands c.into_hands.result.items d c.requires.hands.0 in
    let ok = c.into_hands.result.ok in
    let len = d.1 in
    let n : vec_len c.into_hands.result ≡ c.args.hands = omega (arith, ok, len) in
    subst (λ k. IsNewDeal k (vec_len c.into_hands.result) c.into_hands.result.items) (sym p) (subst (λ k. IsNewDeal c.args.pieces k c.into_hands.result.items) (sym n) d)

pub fan_on-requires-clause-loads : goal.fan_on-requires-clause-loads
fan_on-requires-clause-loads g c κs within =
    let d = subst (λ l. IsNewDeal c.args.pieces c.args.hands l) (sym c.into_hands.ensures) c.in-Ok.ensures in
    let p : pieces_of c.into_hands.result.items ≡ c.args.pieces = new_pieces c.args.pieces c.args.hands c.into_hands.result.items d c.requires.hands.0 in
    subst (λ k. load_below (g.W.Work.reduction c.args.work.now) k < 2 ^ 63) (sym p) c.requires.loads

pub fan_on-requires-clause-room : goal.fan_on-requires-clause-room
fan_on-requires-clause-room g c κs within = λ i s at.
    let d = subst (λ l. IsNewDeal c.args.pieces c.args.hands l) (sym c.into_hands.ensures) c.in-Ok.ensures in
    let p : pieces_of c.into_hands.result.items ≡ c.args.pieces = new_pieces c.args.pieces c.args.hands c.into_hands.result.items d c.requires.hands.0 in
    let z = all_at (λ s. s.sum ≡ 0) _ i s at c.in-Ok-new.ensures.none in
    let l = c.requires.loads in
    subst (λ k. load_below (g.W.Work.reduction c.args.work.now) k + s.sum < 2 ^ 63) (sym p) (omega (arith, z, l))

pub settled-requires : goal.settled-requires
settled-requires g c = record { deal = subst AreAll (sym c.as_mut_slice.ensures.value) c.in_ok-outcome.ensures.deal.0 }
