-- The columns and the query of a plan.
use Rattle.std.specs.Prelude.{List}
use Rattle.semantics.specs.Columns.{Field}
use Rattle.semantics.specs.Syntax.{Query}

-- What a plan is, for contracts: a query, and the columns that it is typed under.
pub record PlannedQuery : Type 0 where
  pub fields : List Field
  pub query : Query

-- The plan of a query under columns.
abbrev pub plan_of : List Field → Query → PlannedQuery
plan_of columns q = record { fields = columns; query = q }
