use Rattle.std.proofs.Common.{◌≡◌, ◌∷◌, [], ◌++◌, arith}
use Rattle.pool.specs.Done.{Worker}
use Rattle.pool.proofs.Fans.{hands_of-joined, sums_of-joined, parts_of-joined}
use Rattle.pool.proofs.threads.workers_from.Goals as goal

pub loop-hand-preserved : goal.loop-hand-preserved
loop-hand-preserved g c =
    let inv = c.loop-hand.invariant in
    let steps = c.in-Some.ensures.steps in
    let share = c.in-Some-next.ensures in
    let part = c.in-Some-next-2.ensures in
    let shares_left = share.cases.1 in
    let parts_left = part.cases.1 in
    let w : Worker _ = record { hand = c.in-Some.hand; sum = c.in-Some-next.share.sum; part = c.in-Some-next-2.part } in
    let put : c.put_last.new.all.items ≡ c.loop-hand.workers.items ++ w ∷ [] = c.in_ok-put_last.ensures.items in
    let hands = inv.2 in
    let sums = inv.3 in
    let parts = inv.4 in (
      omega (arith, inv.0, steps.1, shares_left),
      omega (arith, inv.1, steps.1, parts_left),
      rw (put, hands_of-joined) (rw steps.0 at hands),
      rw (put, sums_of-joined) (rw share.items at sums),
      rw (put, parts_of-joined) (rw part.items at parts),
    )
