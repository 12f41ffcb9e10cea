-- What is shown of the groups of a grouping set.
use Rattle.std.specs.Prelude.{ℕ, List, map}
use Rattle.values.specs.Datum.{data_of}
use Rattle.group_tables.specs.declared.group.Group.{Group}
use Rattle.semantics.specs.Groups.{Record, keys, members}
use Rattle.semantics.specs.Aggregates.{AggregateFunction}
use Rattle.group_tables.specs.Cells.{summary_of}
use Rattle.semantics.specs.ResultRows.{GroupSummary, group_summary}

-- The summary of a group that a table gives.
abbrev pub group_summary_in : Group → GroupSummary
group_summary_in group = record { key = data_of group.key.items; lines = group.lines; cells = map summary_of group.cells.items }

-- The summaries of all groups of a list of records under a grouping set, one for each key.
abbrev pub group_summaries : List ℕ → List AggregateFunction → List Record → List GroupSummary
group_summaries set functions rows = map (λ key. group_summary functions key (members set key rows)) (keys set rows)
