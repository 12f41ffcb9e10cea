-- What `shown_groups` promises of each group that it answers, under a plan.
use Rattle.std.specs.Prelude.{◌<◌, length}
use Rattle.semantics.specs.Sets.{sets_of}
use Rattle.query_plan.specs.Planned.{PlannedQuery}
use Rattle.semantics.specs.ResultRows.{ResultRow}

-- The index of a row is that of a grouping set.
abbrev pub HasSetUnder : PlannedQuery → ResultRow → Type 0
HasSetUnder plan row = row.0 < length (sets_of plan.fields plan.query)
