use Rattle.std.proofs.Common.{◌≡◌, ℕ, ◌<◌, List, length}
use Rattle.pool.specs.Rule.{AllBelow}
use Rattle.pool.specs.Settled.{IsRunAt}
use Rattle.pool.proofs.deal.compare_all.Given as goal

abbrev pub invariant-loop-d : goal.invariant-loop-d
invariant-loop-d l = (l.hands ≡ l.fn.hands) × ((d : ℕ) → d < l.d → (schedule : List ℕ) × AllBelow (length l.fn.hands) schedule × IsRunAt d schedule l.fn.hands)
