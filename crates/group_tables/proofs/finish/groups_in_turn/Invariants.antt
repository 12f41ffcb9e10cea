use Rattle.std.specs.List.Sorted.{IsPermutation}
use Rattle.group_tables.specs.Inside.Summaries.{entry_summaries, summaries_with}
use Rattle.group_tables.specs.Inside.Walks.{entries_left}
use Rattle.group_tables.proofs.finish.groups_in_turn.Given as goal

-- the groups so far and those that the walks have not come to are those of all shards, in some
-- order
abbrev pub invariant-loop : goal.invariant-loop
invariant-loop l = IsPermutation (entry_summaries (entries_left l.initial.walks.items)) (summaries_with l.groups.items (entries_left l.walks.items))
