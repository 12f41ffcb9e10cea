use Rattle.std.proofs.Common.{sym, subst}
use Rattle.group_tables.specs.Rolled.{AreAmong}
use Rattle.tables.specs.declared.roll.Roll.{Roll}
use Rattle.tables.proofs.roll.roll_among.Goals as goal

pub for_each_mut-requires-clause-accepts : goal.for_each_mut-requires-clause-accepts
for_each_mut-requires-clause-accepts g c κs within = λ i roll l is.
    (c.requires.few, subst (λ (r : Roll). AreAmong r.set.items c.args.finer.now.set.items) (sym is) (c.requires.among i roll.now l))
