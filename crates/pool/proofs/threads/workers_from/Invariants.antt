use Rattle.std.proofs.Common.{◌≡◌, ◌++◌, map}
use Rattle.std.specs.Vec.Iter.{into_iter_items, into_iter_len}
use Rattle.pool.specs.Inside.Done.{hands_of, sums_of, parts_of}
use Rattle.pool.proofs.threads.workers_from.Given as goal

abbrev pub invariant-loop-hand : goal.invariant-loop-hand
invariant-loop-hand g l =
    (into_iter_len l.rest_shares ≡ into_iter_len l.hand-iterator) × (into_iter_len l.rest_parts ≡ into_iter_len l.hand-iterator)
    × (hands_of l.workers.items ++ into_iter_items l.hand-iterator ≡ l.fn.hands.items)
    × (sums_of l.workers.items ++ map (λ s. s.sum) (into_iter_items l.rest_shares) ≡ map (λ s. s.sum) l.fn.shares.items)
    × (parts_of l.workers.items ++ into_iter_items l.rest_parts ≡ l.fn.parts.items)
