use Rattle.std.proofs.Common.{◌≡◌, ◌++◌, map}
use Rattle.std.specs.Vec.Iter.{into_iter_items}
use Rattle.pool.specs.Inside.Done.{hands_of, sums_of, parts_of}
use Rattle.pool.proofs.threads.into_lists.Given as goal

abbrev pub invariant-loop-worker : goal.invariant-loop-worker
invariant-loop-worker g l =
    (l.hands.items ++ hands_of (into_iter_items l.worker-iterator) ≡ hands_of l.fn.workers.items)
    × (map (λ s. s.sum) l.shares.items ++ sums_of (into_iter_items l.worker-iterator) ≡ sums_of l.fn.workers.items)
    × (l.parts.items ++ parts_of (into_iter_items l.worker-iterator) ≡ parts_of l.fn.workers.items)
