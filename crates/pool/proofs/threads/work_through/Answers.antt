use Rattle.std.proofs.Common.{inr, map, arith}
use Rattle.std.proofs.lemmas.Result.{IfOk-weaker}
use Rattle.pool.specs.Inside.Done.{parts_of}
use Rattle.pool.specs.Inside.Fanned.{beginning_at}
use Rattle.pool.proofs.Fans.{did_join}
use Rattle.pool.proofs.Parts.{came_light, came_under_way, ready_begins, ready_under_way, resumed_did}
use Rattle.pool.proofs.threads.work_through.Goals as goal

pub spread_in_scope-requires-clause-under_way : goal.spread_in_scope-requires-clause-under_way
spread_in_scope-requires-clause-under_way g c κs within =
    ((beginning_at (g.W.Work.reduction c.args.crew.work.now) (map g.W.Work.meaning (parts_of c.args.ready.items))), ready_begins ((g.met.W.Work g.world.𝓛 g.world.𝓜 g.world.𝓡 ((λ s x. x), (λ x. x), (λ x. x), λ x. x)).lawful c.args.crew.work.now) g.W.Work.meaning c.args.ready.items c.requires.ready, ready_under_way ((g.met.W.Work g.world.𝓛 g.world.𝓜 g.world.𝓡 ((λ s x. x), (λ x. x), (λ x. x), λ x. x)).lawful c.args.crew.work.now) g.W.Work.meaning c.args.ready.items c.requires.ready)

pub weigh-requires-after_bounds : goal.weigh-requires-after_bounds
weigh-requires-after_bounds g c κs within =
    let did = resumed_did ((g.met.W.Work g.world.𝓛 g.world.𝓜 g.world.𝓡 ((λ s x. x), (λ x. x), (λ x. x), λ x. x)).lawful c.args.crew.work.now) g.W.Work.meaning c.args.ready.items c.requires.ready c.in_ok-gathered.gathered.items c.in_ok-gathered.ensures.did in
    came_light ((g.met.W.Work g.world.𝓛 g.world.𝓜 g.world.𝓡 ((λ s x. x), (λ x. x), (λ x. x), λ x. x)).lawful c.args.crew.work.now) g.W.Work.meaning c.args.ready.items c.requires.ready c.in_ok-gathered.gathered.items did

pub returns-then-weigh-limit-clause-did : goal.returns-then-weigh-limit-clause-did
returns-then-weigh-limit-clause-did g c = resumed_did ((g.met.W.Work g.world.𝓛 g.world.𝓜 g.world.𝓡 ((λ s x. x), (λ x. x), (λ x. x), λ x. x)).lawful c.args.crew.work.now) g.W.Work.meaning c.args.ready.items c.requires.ready c.in_ok-gathered.gathered.items c.in_ok-gathered.ensures.did

pub returns-then-weigh-limit-clause-spent : goal.returns-then-weigh-limit-clause-spent
returns-then-weigh-limit-clause-spent g c = inr (let weight = c.weigh.ensures in let above = c.if-weigh-limit.true in omega (arith, weight, above))

pub finish_all-requires-clause-under_way : goal.finish_all-requires-clause-under_way
finish_all-requires-clause-under_way g c κs within =
    let did = resumed_did ((g.met.W.Work g.world.𝓛 g.world.𝓜 g.world.𝓡 ((λ s x. x), (λ x. x), (λ x. x), λ x. x)).lawful c.args.crew.work.now) g.W.Work.meaning c.args.ready.items c.requires.ready c.in_ok-gathered.gathered.items c.in_ok-gathered.ensures.did in
    ((beginning_at (g.W.Work.reduction c.args.crew.work.now) (map g.W.Work.meaning (parts_of c.args.ready.items))), ready_begins ((g.met.W.Work g.world.𝓛 g.world.𝓜 g.world.𝓡 ((λ s x. x), (λ x. x), (λ x. x), λ x. x)).lawful c.args.crew.work.now) g.W.Work.meaning c.args.ready.items c.requires.ready, came_under_way ((g.met.W.Work g.world.𝓛 g.world.𝓜 g.world.𝓡 ((λ s x. x), (λ x. x), (λ x. x), λ x. x)).lawful c.args.crew.work.now) g.W.Work.meaning c.args.ready.items c.requires.ready c.in_ok-gathered.gathered.items did)

pub returns-clause-did : goal.returns-clause-did
returns-clause-did g c =
    let did = resumed_did ((g.met.W.Work g.world.𝓛 g.world.𝓜 g.world.𝓡 ((λ s x. x), (λ x. x), (λ x. x), λ x. x)).lawful c.args.crew.work.now) g.W.Work.meaning c.args.ready.items c.requires.ready c.in_ok-gathered.gathered.items c.in_ok-gathered.ensures.did in
    IfOk-weaker c.finish_all.result _ _
    (λ f more. did_join (g.W.Work.reduction c.args.crew.work.now) g.W.Work.meaning (beginning_at (g.W.Work.reduction c.args.crew.work.now) (map g.W.Work.meaning (parts_of c.args.ready.items))) c.args.ready.items c.in_ok-gathered.gathered.items f.items did
    (more (beginning_at (g.W.Work.reduction c.args.crew.work.now) (map g.W.Work.meaning (parts_of c.args.ready.items))) (ready_begins ((g.met.W.Work g.world.𝓛 g.world.𝓜 g.world.𝓡 ((λ s x. x), (λ x. x), (λ x. x), λ x. x)).lawful c.args.crew.work.now) g.W.Work.meaning c.args.ready.items c.requires.ready) (came_under_way ((g.met.W.Work g.world.𝓛 g.world.𝓜 g.world.𝓡 ((λ s x. x), (λ x. x), (λ x. x), λ x. x)).lawful c.args.crew.work.now) g.W.Work.meaning c.args.ready.items c.requires.ready c.in_ok-gathered.gathered.items did)))
    c.finish_all.ensures.did
