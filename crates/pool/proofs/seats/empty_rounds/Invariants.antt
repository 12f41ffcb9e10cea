use Rattle.std.proofs.Common.{◌≡◌, ℕ, List, [], vec_len}
use mathlib.Core.Option.{some}
use lib.ListN.{get_elem?}
use Rattle.pool.specs.Seen.{Seen}
use Rattle.pool.proofs.seats.empty_rounds.Given as goal

abbrev pub invariant-loop-k : goal.invariant-loop-k
invariant-loop-k l = (vec_len l.rounds ≡ l._k) × ((k : ℕ) (ss : List Seen) → get_elem? l.rounds.items k ≡ some ss → ss ≡ [])
