use Rattle.std.proofs.Common.{◌∙◌, All, List, ap, subst}
use Rattle.std.proofs.lemmas.List.Sorted.{All-permutation, IsPermutation-map}
use Rattle.std.specs.List.Sorted.{IsPermutation}
use Rattle.tables.specs.declared.roll.SetTable.{SetTable}
use Rattle.tables.specs.Inside.Properties.{HasProperty}
use Rattle.tables.specs.Inside.SetTables.{ListedSet, listed_table, sets_of_rolls, sets_of_tables}
use Rattle.tables.proofs.SetTables.{rolled-each, sets-same}
use Rattle.tables.proofs.roll.roll_sets.Goals as goal

pub returns-clause-sets : goal.returns-clause-sets
returns-clause-sets g c =
    let fs = c.args.functions.now in
    let finer = c.args.finer.now in
    let olds = c.args.rolls.items in
    let news = c.perform-rolls.result.items in
    let tables = c.in_ok-tables.tables.items in
    let sorted = c.sort_unstable_by_key.new.self.items in
    let same = c.in_ok-tables.ensures.sets ∙ sets-same fs finer olds news c.perform-rolls.ensures.can_give.0 c.perform-rolls.ensures.can_give.1 in
    subst (λ (sets : List ListedSet). IsPermutation sets (sets_of_tables sorted)) same (IsPermutation-map listed_table tables sorted c.sort_unstable_by_key.ensures.permutation)

pub returns-clause-tables : goal.returns-clause-tables
returns-clause-tables g c = λ property h.
    let fs = c.args.functions.now in
    let finer = c.args.finer.now in
    let olds = c.args.rolls.items in
    let news = c.perform-rolls.result.items in
    let tables = c.in_ok-tables.tables.items in
    let sorted = c.sort_unstable_by_key.new.self.items in
    All-permutation (λ (t : SetTable). HasProperty property t.set.items fs t.table) tables sorted c.sort_unstable_by_key.ensures.permutation
    (c.in_ok-tables.ensures.tables property fs
    (rolled-each fs finer olds news c.perform-rolls.ensures.can_give.0 c.perform-rolls.ensures.can_give.1 property h))
