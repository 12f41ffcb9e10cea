-- What calls ask of a group under a plan.
use Rattle.std.specs.Prelude.{◌∷◌, []}
use Rattle.query_plan.specs.Planned.{PlannedQuery}
use Rattle.semantics.specs.ResultRows.{ResultRow}
use Rattle.group_tables.specs.Fitting.{AreFitting}

-- The row of a group fits the query.
abbrev pub FitsUnder : PlannedQuery → ResultRow → Type 0
FitsUnder plan row = AreFitting plan.fields plan.query (row ∷ [])
