use Rattle.std.proofs.Common.{◌≡◌, ◌++◌, All, List}
use Rattle.query_resolve.specs.declared.function.FilteredFunction.{FilteredFunction}
use Rattle.tables.specs.Inside.Properties.{Property}
use Rattle.tables.specs.Inside.SetTables.{HaveProperty, sets_of_rolls, sets_of_tables}
use Rattle.tables.proofs.SetTables.{HasPropertyWhereMade}
use Rattle.tables.proofs.roll.tables_of_rolls.Given as goal

-- the sets of the tables and of the rolls that are left are those of all rolls; what the rolls had,
-- the tables and these have
abbrev pub invariant-loop-roll : goal.invariant-loop-roll
invariant-loop-roll l = record {
  sets : sets_of_tables l.tables.items ++ sets_of_rolls l.roll-iterator.rest.items ≡ sets_of_rolls l.fn.rolls.items;
  tables : (property : Property) (functions : List FilteredFunction) → All (HasPropertyWhereMade property functions) l.fn.rolls.items
      → HaveProperty property functions l.tables.items × All (HasPropertyWhereMade property functions) l.roll-iterator.rest.items;
}
