use Rattle.std.proofs.Common.{◌≡◌, ℕ, vec_len}
use Rattle.pool.specs.Inside.Assembly.{IsAt}
use Rattle.pool.proofs.seats.seat_everyone.Given as goal

abbrev pub invariant-loop-r : goal.invariant-loop-r
invariant-loop-r l =
    (vec_len l.sources ≡ vec_len l.fn.sources)
    × ((pieces : ℕ) → IsAt (vec_len l.fn.sources) pieces 1 l.fn.sources.items l.fn.rounds.items → IsAt (vec_len l.fn.sources) pieces l.r l.sources.items l.rounds.items)
