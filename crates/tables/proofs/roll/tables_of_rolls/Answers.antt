use Rattle.std.proofs.Common.{◌≡◌, ◌∙◌, ◌++◌, ◌∷◌, All, List, ap, sym, subst}
use Rattle.std.proofs.lemmas.List.Elements.{All-head, All-push, All-tail}
use Rattle.tables.specs.declared.roll.Roll.{Roll}
use Rattle.tables.specs.declared.roll.SetTable.{SetTable}
use Rattle.tables.specs.Inside.Properties.{HasProperty}
use Rattle.tables.specs.Inside.SetTables.{HaveProperty, sets_of_rolls, sets_of_tables}
use Rattle.tables.proofs.SetTables.{HasPropertyWhereMade, rolled-table, sets-more}
use Rattle.tables.proofs.roll.tables_of_rolls.Goals as goal

pub loop-roll-preserved : goal.loop-roll-preserved
loop-roll-preserved c =
    let tables = c.loop-roll.tables.items in
    let roll = c.in-Some.roll in
    let rest = c.next.new.self.rest.items in
    let is : c.loop-roll.roll-iterator.rest.items ≡ roll ∷ rest = c.in-Some.ensures.steps.0 in
    let made = c.in_ok-put_rolled.ensures in
    record {
      sets = ap (λ (ts : List SetTable). sets_of_tables ts ++ sets_of_rolls rest) made.4
          ∙ sets-more tables made.0 roll rest made.1 made.2
          ∙ ap (λ (rs : List Roll). sets_of_tables tables ++ sets_of_rolls rs) (sym is)
          ∙ c.loop-roll.invariant.sets;
      tables = λ property functions had.
          let so_far = c.loop-roll.invariant.tables property functions had in
          let left = subst (All (HasPropertyWhereMade property functions)) is so_far.1 in (
            subst (HaveProperty property functions) (sym made.4)
                (All-push (λ (t : SetTable). HasProperty property t.set.items functions t.table) tables made.0 so_far.0
                (rolled-table property functions roll made.0 made.1 made.3 (All-head (HasPropertyWhereMade property functions) roll rest left))),
            All-tail (HasPropertyWhereMade property functions) roll rest left,
          );
    }

pub returns-clause-tables : goal.returns-clause-tables
returns-clause-tables c = λ property functions had. (c.loop-roll.invariant.tables property functions had).0
