use Rattle.std.proofs.Common.{◌+◌, ◌^◌, ◌<◌, ◌∷◌, length, drop, get_or, map, sym, ap, ◌∙◌, subst, arith}
use Rattle.std.proofs.lemmas.List.{drop_more, drop_all}
use Rattle.pool.specs.Done.{Worker}
use Rattle.pool.specs.Inside.Done.{parts_of}
use Rattle.pool.specs.Inside.Combination.{combination_of}
use Rattle.pool.proofs.Parts.{Each, each_of, light_fit, next_weight}
use Rattle.pool.proofs.threads.weigh.Goals as goal

pub loop-worker-init : goal.loop-worker-init
loop-worker-init g c = (
  each_of (λ m. (g.W.Work.reduction c.args.work.now).fits m × ((g.W.Work.reduction c.args.work.now).load m < 2 ^ 63)) g.W.Work.meaning (parts_of c.args.workers.now.items) c.requires,
  omega arith,
  omega arith,
)

pub loop-worker-preserved : goal.loop-worker-preserved
loop-worker-preserved g c =
    let w = g.met.W.Work.lawful c.args.work.now in
    let inv = c.loop-worker.invariant in
    let v = c.deref-worker-items.ensures.value in
    let below : c.loop-worker.worker-index < length c.args.workers.now.items = subst (λ l. c.loop-worker.worker-index < length l) v c.loop-worker-test.true in
    let here = ap parts_of (drop_more c.args.workers.now.items c.loop-worker.worker-index c.worker-item.result below ∙ ap (λ x. x ∷ drop (c.loop-worker.worker-index + 1) c.args.workers.now.items) (sym (c.worker-item.is ∙ ap (λ l. get_or l c.loop-worker.worker-index c.worker-item.result) v))) in
    let weight = next_weight w g.W.Work.meaning (parts_of (drop c.loop-worker.worker-index c.args.workers.now.items)) c.worker-item.result.part (parts_of (drop (c.loop-worker.worker-index + 1) c.args.workers.now.items)) here (light_fit (g.W.Work.reduction c.args.work.now) (map g.W.Work.meaning (parts_of (drop c.loop-worker.worker-index c.args.workers.now.items))) inv.0) in
    let its = c.weight.ensures ∙ ap (λ (d : Worker _). (g.W.Work.reduction c.args.work.now).weight (g.W.Work.meaning d.part)) c.worker.view_is in
    let more = c.saturating_add-sum.ensures in
    let sum = inv.1 in (
      (subst (λ l. Each (λ m. (g.W.Work.reduction c.args.work.now).fits m × ((g.W.Work.reduction c.args.work.now).load m < 2 ^ 63)) (map g.W.Work.meaning l)) here inv.0).1,
      omega (arith, weight, its, more, sum),
      omega (arith, more),
    )

pub returns : goal.returns
returns g c =
    let w = g.met.W.Work.lawful c.args.work.now in
    let end = c.loop-worker-test.false in
    let count = ap (λ l. length l) c.deref-worker-items.ensures.value in
    let gone = drop_all c.loop-worker.worker-index c.args.workers.now.items (omega (arith, end, count)) in
    let none = ap (λ l. (g.W.Work.reduction c.args.work.now).weight (combination_of (g.W.Work.reduction c.args.work.now) (map g.W.Work.meaning (parts_of l)))) gone ∙ w.unit_weight in
    let sum = (c.loop-worker.invariant).1 in
    let few = (c.loop-worker.invariant).2 in
    omega (arith, none, sum, few)
