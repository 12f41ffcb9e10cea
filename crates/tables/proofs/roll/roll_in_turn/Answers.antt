use Rattle.std.proofs.Common.{sym, subst, arith}
use Rattle.group_tables.specs.Rolled.{AreAmong}
use Rattle.tables.specs.declared.roll.Roll.{Roll}
use Rattle.tables.proofs.roll.roll_in_turn.Goals as goal

pub roll-requires-clause-among : goal.roll-requires-clause-among
roll-requires-clause-among c =
    let place = c.loop-place.place in
    let roll = c.index-rolls-place in
    subst (λ (r : Roll). AreAmong r.set.items c.args.finer.now.set.items) (sym (c.loop-place.invariant.left place roll.result (omega arith)))
    (c.requires.among place roll.result c.loop-place-test.true)
