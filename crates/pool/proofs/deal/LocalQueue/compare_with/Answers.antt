use Rattle.std.proofs.Common.{◌∙◌, ◌+◌, length, ap, subst}
use Rattle.crossbeam_deque.specs.Handles.{worker_view}
use Rattle.pool.specs.Seen.{Owned}
use Rattle.pool.specs.Inside.Looks.{HaveOneRun}
use Rattle.pool.specs.Steps.{AreKnown}
use Rattle.pool.proofs.Looks.{knows_own, looked_same}
use Rattle.pool.proofs.deal.LocalQueue.compare_with.Goals as goal

pub compare-requires-clause-owner : goal.compare-requires-clause-owner
compare-requires-clause-owner c =
    let made = ap (λ (o : Owned). o.made) c.self.view_is ∙ c.requires.count in
    knows_own (length c.args.before.now + length c.args.after.now) (worker_view c.self.inside.worker) c.self.invariant.1 made

pub returns-clause-same : goal.returns-clause-same
returns-clause-same c = (
  looked_same _ _ (worker_view c.self.inside.worker) (worker_view c.compare.new.worker) c.compare.ensures.deque.0 c.compare.ensures.looked ∙ c.self.view_is,
  c.compare.ensures.same.1,
  c.compare.ensures.same.0,
)

pub returns-clause-run : goal.returns-clause-run
returns-clause-run c =
    let b = c.args.before.now in
    let a = c.args.after.now in
    let v = worker_view c.self.inside.worker in
    let run = c.compare.ensures.run in
    subst (λ (o : Owned). HaveOneRun o b a) c.self.view_is
    (run.0, run.1, (subst (λ k. AreKnown v.numbers run.0 k) c.self.invariant.1.2 run.2).0, run.3, run.4)
