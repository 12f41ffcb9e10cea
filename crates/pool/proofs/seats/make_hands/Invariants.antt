use Rattle.std.proofs.Common.{◌≡◌, ℕ, ◌+◌, List, vec_len}
use Rattle.std.specs.Vec.Iter.{into_iter_items, into_iter_len}
use mathlib.Core.Option.{some}
use lib.ListN.{get_elem?}
use Rattle.std.specs.declared.alloc.Global.{Global}
use Rattle.pool.specs.Seen.{Seen}
use Rattle.pool.specs.Views.{Offer}
use Rattle.pool.specs.Holding.{Holding}
use Rattle.pool.specs.Settled.{Belongs}
use Rattle.pool.specs.Inside.Assembly.{Gives, Gets}
use Rattle.pool.specs.Assembly.{IsFresh}
use Rattle.pool.proofs.seats.make_hands.Given as goal

abbrev pub invariant-loop-source : goal.invariant-loop-source
invariant-loop-source l =
    let done = vec_len l.made in
    let n = vec_len l.fn.sources in
    (done + into_iter_len l.source-iterator ≡ n) × (done + into_iter_len l.rest ≡ n)
    × ((names : ℕ → (ℕ × ℕ) × Global)
    × ((j : ℕ) (o : Offer) → get_elem? (into_iter_items l.source-iterator) j ≡ some o → Gives names n l.pieces n 0 (done + j) o)
    × ((j : ℕ) (ss : List Seen) → get_elem? (into_iter_items l.rest) j ≡ some ss → Gets names n l.pieces n 0 (done + j) ss)
    × ((k : ℕ) (h : Holding) → get_elem? l.made.items k ≡ some h → Belongs names l.pieces n k h × IsFresh l.pieces h))
