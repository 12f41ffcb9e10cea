use Rattle.std.proofs.Common.{All, List, ℕ, ◌++◌, sym, subst}
use Rattle.std.proofs.lemmas.List.Elements.{All-append}
use Rattle.std.specs.List.Sorted.{IsPermutation}
use Rattle.tables.specs.declared.roll.SetTable.{SetTable}
use Rattle.group_tables.specs.Rolled.{AreAmong}
use Rattle.tables.specs.declared.roll.Roll.{Roll}
use Rattle.tables.specs.Inside.Properties.{HasProperty}
use Rattle.tables.specs.Inside.SetTables.{HaveFiner, HaveProperty, sets_of_rolls, sets_of_tables}
use Rattle.tables.proofs.SetTables.{WaitsOn}
use Rattle.tables.proofs.Walking.{finer-left, sets-moved}
use Rattle.tables.proofs.roll.roll_out.Goals as goal

pub roll_sets-requires-clause-among : goal.roll_sets-requires-clause-among
roll_sets-requires-clause-among g c = subst (λ (finer : List ℕ). All (λ (roll : Roll). AreAmong roll.set.items finer) c.in_ok-rolls.rolls.items) c.as_slice.ensures.value c.in_ok-rolls.ensures.rolls

pub returns-clause-sets : goal.returns-clause-sets
returns-clause-sets g c =
    let waiting = c.args.waiting.items in
    let tables = c.args.tables.now.items in
    let left = c.in_ok-rolls.left.items in
    subst (λ (new : List SetTable). IsPermutation (sets_of_rolls waiting ++ sets_of_tables tables) (sets_of_rolls left ++ sets_of_tables new)) (sym c.in_ok-append.ensures.items)
    (sets-moved waiting c.in_ok-rolls.rolls.items left tables c.in_ok-rolled.rolled.items c.in_ok-rolls.ensures.split c.in_ok-rolled.ensures.sets)

pub returns-clause-finer : goal.returns-clause-finer
returns-clause-finer g c = λ had.
    let left = c.in_ok-rolls.left.items in
    let rolls = c.in_ok-rolls.rolls.items in
    let tables = c.args.tables.now.items in
    let waits = subst (λ (finer : List ℕ). All (WaitsOn finer rolls) left) c.as_slice.ensures.value c.in_ok-rolls.ensures.left in
    subst (λ (new : List SetTable). HaveFiner left (sets_of_tables new)) (sym c.in_ok-append.ensures.items)
    (finer-left c.args.finer.now c.args.waiting.items rolls left tables c.in_ok-rolled.rolled.items c.in_ok-rolls.ensures.split c.in_ok-rolled.ensures.sets waits had)

pub returns-clause-tables : goal.returns-clause-tables
returns-clause-tables g c = λ property h had.
    let fs = c.args.functions.now in
    subst (HaveProperty property fs) (sym c.in_ok-append.ensures.items)
    (All-append (λ (t : SetTable). HasProperty property t.set.items fs t.table) c.args.tables.now.items c.in_ok-rolled.rolled.items had (c.in_ok-rolled.ensures.tables property h))
