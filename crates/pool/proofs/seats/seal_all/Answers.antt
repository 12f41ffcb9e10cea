use Rattle.std.proofs.Common.{◌≡◌, ◌∙◌, suc, ◌+◌, ⊎_elim, sym, ap, subst, arith, vec_len}
use mathlib.Core.Option.{some}
use lib.ListN.{get_elem?}
use Rattle.pool.specs.Dealing.{residue_class}
use Rattle.pool.proofs.Assemblies.{at_end}
use Rattle.pool.proofs.seats.seal_all.Goals as goal

pub loop-deque-preserved : goal.loop-deque-preserved
loop-deque-preserved c =
    let inv = c.loop-deque.invariant in
    let steps = c.in-Some.ensures.steps in
    let put = c.in_ok-put_last.ensures in
    let done = vec_len c.loop-deque.sources in
    let sealed = c.in_ok-source.ensures in
    let ok = c.loop-deque.sources.ok in
    let len = put.len in (
      omega (arith, inv.0, steps.1, len),
      λ n are.
          let was = inv.1 n are in
          let here : c.in-Some.deque ≡ residue_class c.args.hands (done + 0) n = was.0 0 c.in-Some.deque (ap (λ l. get_elem? l 0) steps.0) in
          let z : done + 0 ≡ done = omega arith in (
            (λ d f at. let e : done + suc d ≡ vec_len c.put_last.new.all + d = omega (arith, len) in subst (λ k. f ≡ residue_class c.args.hands k n) e (was.0 (suc d) f (ap (λ l. get_elem? l (suc d)) steps.0 ∙ at))),
            (λ e o at.
                ⊎_elim (λ u. was.1 e o u)
                (λ u.
                let is : e ≡ done = omega (arith, u.0, ok) in
                rw (is, sym u.1) (sealed.0 ∙ here ∙ ap (λ k. residue_class c.args.hands k n) z, sealed.1, sealed.2))
                (at_end c.loop-deque.sources.items c.in_ok-source.source o e (subst (λ l. get_elem? l e ≡ some o) put.items at))),
          ),
    )
