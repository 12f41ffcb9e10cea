use Rattle.std.proofs.Common.{◌+◌, ◌^◌, ◌<◌, ℕ, sym, subst, arith}
use Rattle.std.proofs.lemmas.Result.{IfOk-weaker}
use Rattle.pool.specs.Totals.{sum_below}
use Rattle.pool.specs.Fanned.{CameBack, Reported}
use Rattle.pool.proofs.Fans.{all_at}
use Rattle.pool.proofs.Shares.{reported_by}
use Rattle.pool.proofs.threads.fan_deal_onto.Goals as goal

pub fan_onto-requires-clause-loads : goal.fan_onto-requires-clause-loads
fan_onto-requires-clause-loads g c κs within =
    subst (λ n. (g.W.Work.reduction c.args.work.now).load (g.W.Work.meaning c.args.part) + sum_below (λ i. (g.W.Work.reduction c.args.work.now).load ((g.W.Work.reduction c.args.work.now).piece i)) n < 2 ^ 63) (sym c.in_ok-hands.ensures.pieces) c.requires.loads

pub fan_onto-requires-clause-room : goal.fan_onto-requires-clause-room
fan_onto-requires-clause-room g c κs within = λ i s at.
    subst (λ n. sum_below (λ i. (g.W.Work.reduction c.args.work.now).load ((g.W.Work.reduction c.args.work.now).piece i)) n + s.sum < 2 ^ 63) (sym c.in_ok-hands.ensures.pieces)
    (all_at (λ s. sum_below (λ i. (g.W.Work.reduction c.args.work.now).load ((g.W.Work.reduction c.args.work.now).piece i)) c.args.pieces + s.sum < 2 ^ 63) c.args.shares.items i s at c.requires.room)

pub returns-clause-reported : goal.returns-clause-reported
returns-clause-reported g c =
    let shares = c.args.shares.ok in
    let asked = c.len.ensures in
    let as_many = c.in_ok-hands.ensures.count in
    let hands = c.in_ok-hands.hands.ok in
    let weights : ℕ → ℕ = λ i. (g.W.Work.reduction c.args.work.now).weight ((g.W.Work.reduction c.args.work.now).piece i) in
    IfOk-weaker c.fan_onto.result (λ r. CameBack weights (λ s. s.sum) c.in_ok-hands.hands.items c.args.shares.items r.1.items r.2.items)
    (λ r. Reported weights (λ s. s.sum) c.args.shares.items r.1.items r.2.items)
    (λ r. reported_by weights (λ s. s.sum) c.in_ok-hands.hands.items c.args.shares.items r.1.items r.2.items (omega (arith, hands, as_many, asked, shares))) c.fan_onto.ensures.back
