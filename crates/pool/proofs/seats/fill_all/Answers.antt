use Rattle.std.proofs.Common.{◌≡◌, ◌%◌, ◌<◌, suc, vec_len, length, slice_index_or, set, sym, ap, subst, arith, add-one}
use mathlib.Core.Option.{some}
use lib.ListN.{get_elem?}
use Rattle.std.proofs.lemmas.Nat.{mod_below}
use Rattle.crossbeam_deque.proofs.Lists.{at_index}
use Rattle.pool.specs.Inside.Assembly.{AreFilled}
use Rattle.pool.proofs.Assemblies.{filled_more}
use Rattle.pool.proofs.seats.fill_all.Goals as goal

pub loop-i-preserved : goal.loop-i-preserved
loop-i-preserved c =
    let inv = c.loop-i.invariant in
    let hands = vec_len c.args.deques.now in
    let i = c.loop-i.i in
    let old = c.index_mut-deque.result.now in
    let e = c.len-hands.ensures in
    let place : c.loop-i.i % c.len-hands.result ≡ c.loop-i.i % vec_len c.args.deques.now = ap (λ n. c.loop-i.i % n) e in
    let b = mod_below i (vec_len c.args.deques.now) c.requires.some in
    let ok = c.loop-i.deques.ok in
    let low : c.loop-i.i % vec_len c.args.deques.now < length c.loop-i.deques.items = omega (arith, b, inv.0, ok) in
    let was : get_elem? c.loop-i.deques.items (c.loop-i.i % vec_len c.args.deques.now) ≡ some old = at_index c.loop-i.deques.items (c.loop-i.i % vec_len c.args.deques.now) old low (subst (λ n. old ≡ slice_index_or c.loop-i.deques.items n old) place c.index_mut-deque.ensures.value) in
    let more = filled_more hands i c.loop-i.deques.items old was inv.1 in (
      inv.0,
      subst (λ n. AreFilled hands n (set c.loop-i.deques.items (i % c.len-hands.result) c.fill.new.self)) (sym (add-one i))
          (subst (λ n. AreFilled hands (suc i) (set c.loop-i.deques.items n c.fill.new.self)) (sym place) (subst (λ l. AreFilled hands (suc i) (set c.loop-i.deques.items (i % hands) l)) (sym c.in_ok-fill.ensures) more)),
    )
