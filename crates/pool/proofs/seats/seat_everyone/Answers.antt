use Rattle.std.proofs.Common.{◌≡◌, ◌+◌, ◌∙◌, vec_len, sym, subst, arith}
use Rattle.pool.specs.Inside.Assembly.{IsAt}
use Rattle.pool.proofs.seats.seat_everyone.Goals as goal

pub seat_all-requires-clause-at : goal.seat_all-requires-clause-at
seat_all-requires-clause-at c =
    let at = c.requires.at in
    let s = c.loop-r.invariant.1 at.0 at.1 in
    (at.0, subst (λ n. IsAt n at.0 c.loop-r.r c.loop-r.sources.items c.loop-r.rounds.items) (sym c.loop-r.invariant.0) s)

pub loop-r-preserved : goal.loop-r-preserved
loop-r-preserved c =
    let inv = c.loop-r.invariant in
    let e = c.in_ok-seat_all.ensures in (
      e.count ∙ inv.0,
      λ pieces at.
          subst (λ n. IsAt n pieces (c.loop-r.r + 1) c.seat_all.new.sources.items c.seat_all.new.rounds.items) inv.0
          (e.at pieces (subst (λ n. IsAt n pieces c.loop-r.r c.loop-r.sources.items c.loop-r.rounds.items) (sym inv.0) (inv.1 pieces at))),
    )

pub returns-clause-at : goal.returns-clause-at
returns-clause-at c pieces at =
    let n = c.len-r-end.ensures in
    let some_one = c.requires.count.0 in
    let l = c.loop-r-test.false in
    let a = c.loop-r.auto.r-end (omega (arith, n, some_one)) in
    let is : c.loop-r.r ≡ vec_len c.args.sources.now = omega (arith, n, l, a) in
    subst (λ r. IsAt (vec_len c.args.sources.now) pieces r c.loop-r.sources.items c.loop-r.rounds.items) is (c.loop-r.invariant.1 pieces at)
