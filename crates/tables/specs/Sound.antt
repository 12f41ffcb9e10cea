-- Partial results that a plan can finish, whatever records they are of.
use Rattle.std.specs.Prelude.{◌≡◌}
use Rattle.semantics.specs.Sets.{grouping_places, sets_of}
use Rattle.query_plan.specs.Planned.{PlannedQuery}
use Rattle.query_resolve.specs.Functions.{indexed_functions}
use Rattle.group_tables.specs.Table.{Contents}
use Rattle.group_tables.specs.Typed.{IsTypedTable}
use Rattle.tables.specs.Functions.{filter_texts}
use Rattle.tables.specs.States.{PartialState}

-- The groups of a table have the types of a plan's grouping columns and set functions.
abbrev pub IsTypedTableUnder : PlannedQuery → Contents → Type 0
IsTypedTableUnder plan table = IsTypedTable plan.fields (grouping_places plan.fields plan.query) (indexed_functions plan.fields plan.query) table

-- A partial result is one that a plan can finish, whatever records it is of: it has the plan's
-- grouping sets, set functions and filters, and its groups have the types of the grouping columns
-- and of the set functions. Each partial result of the plan over some pieces is so.
pub record IsSoundUnder (plan : PlannedQuery) (partial : PartialState) : Type 0 where
  pub sets : partial.sets ≡ sets_of plan.fields plan.query
  pub functions : partial.functions ≡ indexed_functions plan.fields plan.query
  pub filters : partial.filters ≡ filter_texts plan
  pub typed : IsTypedTableUnder plan partial.table
