use Rattle.std.proofs.Common.{◌≡◌, ◌∙◌, ⊎_elim, sym, subst, arith}
use mathlib.Core.Option.{some}
use lib.ListN.{get_elem?}
use Rattle.crossbeam_deque.proofs.Lists.{at_snoc}
use Rattle.pool.proofs.seats.empty_rounds.Goals as goal

pub loop-k-preserved : goal.loop-k-preserved
loop-k-preserved c =
    let inv = c.loop-k.invariant in
    let len = c.in_ok-put_last.ensures.len in (
      omega (arith, len, inv.0),
      λ k ss at. ⊎_elim (λ u. inv.1 k ss u) (λ u. sym u ∙ c.new.ensures) (at_snoc c.loop-k.rounds.items c.new.result ss k (subst (λ l. get_elem? l k ≡ some ss) c.in_ok-put_last.ensures.items at)),
    )
