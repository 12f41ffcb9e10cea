use Rattle.std.proofs.Common.{Option, subst}
use Rattle.values.specs.declared.group_entry.GroupEntry.{GroupEntry}
use Rattle.parts.specs.Inside.Gathering.{CanHold}
use Rattle.parts.proofs.Holding.{put-holds}
use Rattle.parts.proofs.put_group.put_last.Goals as goal

pub returns-in-Some-clause-holds : goal.returns-in-Some-clause-holds
returns-in-Some-clause-holds c =
    put-holds c.args.plan.now c.args.partial c.in-Some.group c.args.left c.put_group.result
    (subst (λ (last : Option GroupEntry). CanHold c.args.plan.now c.args.partial last c.args.left) c.in-Some.is c.requires) c.put_group.ensures.within c.put_group.ensures.sound c.put_group.ensures.others
