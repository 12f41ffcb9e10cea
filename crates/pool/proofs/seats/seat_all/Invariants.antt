use Rattle.std.proofs.Common.{◌≡◌, ℕ, vec_len}
use Rattle.std.specs.declared.alloc.Global.{Global}
use Rattle.pool.specs.Inside.Assembly.{Seating}
use Rattle.pool.proofs.seats.seat_all.Given as goal

abbrev pub invariant-loop-e : goal.invariant-loop-e
invariant-loop-e l =
    (vec_len l.sources ≡ vec_len l.fn.sources) × (vec_len l.rounds ≡ vec_len l.fn.sources)
    × ((pieces : ℕ) (names : ℕ → (ℕ × ℕ) × Global) → Seating names (vec_len l.fn.sources) pieces l.r 0 l.fn.sources.items l.fn.rounds.items → Seating names (vec_len l.fn.sources) pieces l.r l.e l.sources.items l.rounds.items)
