use Rattle.std.proofs.Common.{All, List, ap, drop, length, sym, subst, arith, ◌≡◌, ◌∙◌}
use Rattle.group_tables.specs.Rolled.{AreAmong}
use Rattle.tables.specs.declared.roll.Roll.{Roll}
use Rattle.tables.specs.Inside.SetTables.{AreRolled}
use Rattle.tables.proofs.SetTables.{take-front}
use Rattle.tables.proofs.roll.RollSetsOperation.run_among.Goals as goal

pub roll_among-requires-clause-among : goal.roll_among-requires-clause-among
roll_among-requires-clause-among g c κs within = subst (All (λ (roll : Roll). AreAmong roll.set.items c.args.self.finer.now.set.items)) (sym c.as_mut_slice.ensures.value) c.requires.can_run.1

pub returns : goal.returns
returns g c =
    let fs = c.args.self.functions.now in
    let finer = c.args.self.finer.now in
    let olds = c.as_mut_slice.result.now in
    let news = c.roll_among.new.rolls in
    let n = c.args.self.rolls.ok in
    let m = ap length c.as_mut_slice.ensures.value in
    let same = c.roll_among.auto.rolls in
    let come = take-front c.args.self.rolls.len news (drop (length news) c.args.self.rolls.items) (omega (arith, n, m, same)) in
    record {
      can_give = (
        ap length come ∙ same ∙ m,
        subst (λ (rs : List Roll). AreRolled fs finer c.args.self.rolls.items rs) (sym come)
            (subst (λ (rs : List Roll). AreRolled fs finer rs news) c.as_mut_slice.ensures.value c.roll_among.ensures.rolled),
      );
    }
