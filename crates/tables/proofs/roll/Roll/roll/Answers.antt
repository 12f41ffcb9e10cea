use Rattle.std.proofs.Common.{IfSome, List, ℕ, Option, refl, sym, subst}
use Rattle.std.proofs.lemmas.Result.{IfOk-weaker}
use Rattle.group_tables.specs.Table.{Contents}
use Rattle.group_tables.specs.Rolled.{AreAmong}
use Rattle.tables.specs.Inside.SetTables.{IsRolledOutOf}
use Rattle.tables.proofs.SetTables.{roll-kept, some-of_ok}
use Rattle.tables.specs.Inside.Properties.{HasProperty}
use Rattle.tables.proofs.roll.Roll.roll.Goals as goal

pub roll-rolled-requires-clause-among : goal.roll-rolled-requires-clause-among
roll-rolled-requires-clause-among c =
    subst (λ (finer : List ℕ). AreAmong c.as_slice-2.result.now finer) (sym c.as_slice.ensures.value)
    (subst (λ (set : List ℕ). AreAmong set c.args.finer.now.set.items) (sym c.as_slice-2.ensures.value) c.requires.among)

pub returns : goal.returns
returns c =
    let fs = c.args.functions.now in
    let finer = c.args.finer.now in
    let set = c.args.self.now.set.items in
    let kept = roll-kept c.as_slice.result.now c.as_slice-2.result.now fs finer.table c.roll-rolled.result c.roll-rolled.ensures.rolled c.roll-rolled.ensures.counted c.roll-rolled.ensures.typed in
    record {
      rolled = (
        refl,
        refl,
        subst (λ (o : Option Contents). IfSome o (IsRolledOutOf fs finer set)) (sym c.ok.ensures.value)
            (some-of_ok (IsRolledOutOf fs finer set) c.roll-rolled.result
            (IfOk-weaker c.roll-rolled.result _ _ (λ table rolled property h.
            subst (λ (s : List ℕ). HasProperty property s fs table) c.as_slice-2.ensures.value
            (rolled property (subst (λ (s : List ℕ). HasProperty property s fs finer.table) (sym c.as_slice.ensures.value) h))) kept)),
      );
    }
