use Rattle.std.proofs.Common.{◌≡◌, ◌∙◌, ⊎_elim, sym, subst, arith}
use mathlib.Core.Option.{some}
use lib.ListN.{get_elem?}
use Rattle.crossbeam_deque.proofs.Lists.{at_snoc}
use Rattle.pool.proofs.seats.empty_deques.Goals as goal

pub loop-d-preserved : goal.loop-d-preserved
loop-d-preserved c =
    let inv = c.loop-d.invariant in
    let len = c.in_ok-put_last.ensures.len in (
      omega (arith, len, inv.0),
      λ d f at. ⊎_elim (λ u. inv.1 d f u) (λ u. sym u ∙ c.in_ok-deque.ensures) (at_snoc c.loop-d.deques.items c.in_ok-deque.deque f d (subst (λ l. get_elem? l d ≡ some f) c.in_ok-put_last.ensures.items at)),
    )
