-- The groups of a grouping set.
use Rattle.std.specs.Prelude.{ℕ, List, map}
use Rattle.group_tables.specs.declared.group.Group.{Group}
use Rattle.semantics.specs.Aggregates.{AggregateFunction}
use Rattle.group_tables.specs.GroupSummaries.{group_summary_in, group_summaries}
use Rattle.group_tables.specs.Bags.{SameBag}
use Rattle.semantics.specs.Groups.{Record}

-- The groups are those of a grouping set over the records: one for each key, and no other.
abbrev pub AreGroupsOfSet : List ℕ → List AggregateFunction → List Group → List Record → Type 0
AreGroupsOfSet set functions groups rows = SameBag (map group_summary_in groups) (group_summaries set functions rows)
