use Rattle.std.proofs.Common.{◌≡◌, ℕ, ◌+◌, List, vec_len}
use Rattle.std.specs.Vec.Iter.{into_iter_items, into_iter_len}
use mathlib.Core.Option.{some}
use lib.ListN.{get_elem?}
use Rattle.pool.specs.Dealing.{residue_class}
use Rattle.pool.specs.Inside.Assembly.{AreFilled, AreOffers}
use Rattle.pool.proofs.seats.seal_all.Given as goal

abbrev pub invariant-loop-deque : goal.invariant-loop-deque
invariant-loop-deque l =
    let done = vec_len l.sources in
    (done + into_iter_len l.deque-iterator ≡ vec_len l.fn.deques)
    × ((n : ℕ) → AreFilled l.hands n l.fn.deques.items → ((d : ℕ) (f : List ℕ) → get_elem? (into_iter_items l.deque-iterator) d ≡ some f → f ≡ residue_class l.hands (done + d) n) × AreOffers l.hands n 1 l.sources.items)
