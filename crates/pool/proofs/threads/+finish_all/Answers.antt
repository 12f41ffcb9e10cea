use Rattle.std.proofs.Common.{length}
use Rattle.pool.proofs.Fans.{under_way_front, under_way_last, did_more, spent_more, if_both}
use Rattle.pool.proofs.threads.+finish_all.Goals as goal

pub finish_all-requires-clause-under_way : goal.finish_all-requires-clause-under_way
finish_all-requires-clause-under_way g t c κs within = let r = c.requires.under_way in (r.0, r.1, under_way_front (g.W.Work.reduction c.args.crew.now.work.now) g.W.Work.meaning r.0 c.args.gathered.items c.pop.new.self.items c.in-Some.done c.in-Some.ensures.items r.2)

pub go_on-requires-after_bounds : goal.go_on-requires-after_bounds
go_on-requires-after_bounds g t c κs within =
    let r = c.requires.under_way in
    let place = length c.pop.new.self.items in
    (r.0 place, r.1 place, under_way_last (g.W.Work.reduction c.args.crew.now.work.now) g.W.Work.meaning r.0 c.args.gathered.items c.pop.new.self.items c.in-Some.done c.in-Some.ensures.items r.2)

pub returns-in-Ok-clause-did : goal.returns-in-Ok-clause-did
returns-in-Ok-clause-did g t c =
    let place = length c.pop.new.self.items in
    if_both c.add_done.result c.go_on.result c.add_done.ensures.more c.go_on.ensures.did
    (λ all d is went. λ begin fits under_way.
    let others = c.in-Ok.ensures.did begin fits (under_way_front (g.W.Work.reduction c.args.crew.now.work.now) g.W.Work.meaning begin c.args.gathered.items c.pop.new.self.items c.in-Some.done c.in-Some.ensures.items under_way) in
    let did = went (begin place) (fits place) (under_way_last (g.W.Work.reduction c.args.crew.now.work.now) g.W.Work.meaning begin c.args.gathered.items c.pop.new.self.items c.in-Some.done c.in-Some.ensures.items under_way) in
    rw (c.in-Some.ensures.items, is) (did_more (g.W.Work.reduction c.args.crew.now.work.now) g.W.Work.meaning begin c.pop.new.self.items c.in-Ok.others.items c.in-Some.done d others did))

pub returns-in-Ok-clause-spent : goal.returns-in-Ok-clause-spent
returns-in-Ok-clause-spent g t c =
    if_both c.add_done.result c.go_on.result c.add_done.ensures.more (c.go_on.ensures.spent c.requires.never)
    (λ all d is spent. rw is (spent_more c.in-Ok.others.items d c.in-Ok.ensures.spent spent))
