-- What is shown of the groups of entries.
use Rattle.group_tables.specs.declared.packed_key.PackedKey.{PackedKey}
use Rattle.std.specs.Prelude.{List, ◌++◌, map}
use Rattle.semantics.specs.ResultRows.{GroupSummary}
use Rattle.group_tables.specs.declared.group.Group.{Group}
use Rattle.group_tables.specs.GroupSummaries.{group_summary_in}
use Rattle.group_tables.specs.Group.{GroupState}
use Rattle.group_tables.specs.Inside.Group.{state_summary}
use Rattle.group_tables.specs.Table.{entries_by_key}

-- The summaries of the groups of entries.
abbrev pub entry_summaries : List (PackedKey × GroupState) → List GroupSummary
entry_summaries entries = map state_summary (entries_by_key entries)

-- The summaries of groups, and behind them those of entries.
abbrev pub summaries_with : List Group → List (PackedKey × GroupState) → List GroupSummary
summaries_with groups entries = map group_summary_in groups ++ entry_summaries entries
