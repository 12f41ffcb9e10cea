use Rattle.std.proofs.Common.{◌≡◌, ◌+◌, ◌-◌, ◌^◌, ◌<◌, ◌≤◌, drop, map, min}
use Rattle.pool.specs.Inside.Done.{parts_of}
use Rattle.pool.specs.Inside.Combination.{combination_of}
use Rattle.pool.proofs.Parts.{Each}
use Rattle.pool.proofs.threads.weigh.Given as goal

abbrev pub invariant-loop-worker : goal.invariant-loop-worker
invariant-loop-worker g l =
    Each (λ m. (g.W.Work.reduction l.work).fits m × ((g.W.Work.reduction l.work).load m < 2 ^ 63)) (map g.W.Work.meaning (parts_of (drop l.worker-index l.fn.workers.items)))
    × (min (l.sum + (g.W.Work.reduction l.work).weight (combination_of (g.W.Work.reduction l.work) (map g.W.Work.meaning (parts_of (drop l.worker-index l.fn.workers.items))))) (2 ^ 64 - 1)
    ≡ min ((g.W.Work.reduction l.work).weight (combination_of (g.W.Work.reduction l.work) (map g.W.Work.meaning (parts_of l.fn.workers.items)))) (2 ^ 64 - 1))
    × (l.sum ≤ 2 ^ 64 - 1)
