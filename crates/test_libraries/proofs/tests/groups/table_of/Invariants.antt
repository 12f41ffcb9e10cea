use Rattle.std.proofs.Common.{◌≡◌, ◌∷◌, [], List, length, map}
use Rattle.group_tables.specs.Functions.{aggregate_of}
use Rattle.semantics.specs.Groups.{Record, value_at}
use Rattle.semantics.specs.Aggregates.{is_non_null}
use Rattle.group_tables.specs.Table.{IsTableOf}
use Rattle.test_libraries.proofs.tests.groups.table_of.Given as goal

-- the table of as many records as were taken
abbrev pub invariant-loop-fields : goal.invariant-loop-fields
invariant-loop-fields l = (rows : List Record) × (IsTableOf l.set (map (aggregate_of ((λ row. is_non_null (value_at 1 row)) ∷ [])) l.functions) l.table rows × (length rows ≡ l.fields-index))
