use Rattle.std.proofs.Common.{ap, arith}
use Rattle.pool.specs.Totals.{sum_below}
use Rattle.pool.proofs.Shares.{grown_within}
use Rattle.test_pool.proofs.tests.deal_twice.Goals as goal

-- each share had 0, and grew by at most the weights of the hundred pieces, 1 each
pub fan_deal_onto-requires-2-clause-room : goal.fan_deal_onto-requires-2-clause-room
fan_deal_onto-requires-2-clause-room g c κs lives k d low =
    let dealt = c.in_ok-first.ensures.deal in
    let none = c.in-Ok.ensures.none in
    let grown = grown_within (λ i. 1) (λ share. share.sum) c.in-Ok.shares.items c.in_ok-first.field-0-1.items c.in_ok-first.shares.items dealt.0 c.in_ok-first.ensures.reported 0
    (λ i share there. let zero_sum = none i share there in omega (arith, zero_sum)) k d low in
    let pieces = ap (sum_below (λ i. 1)) dealt.1 in
    omega (arith, grown, pieces)
