-- The groups of shards that are finished one by one.
use Rattle.std.specs.Prelude.{◌≡◌, List, ◌∷◌, IfOk, map, []}
use Rattle.std.specs.Global.{Vec}
use Rattle.std.specs.declared.alloc.AllocError.{AllocError}
use Rattle.std.specs.declared.result.Result.{Result}
use Rattle.group_tables.specs.GroupSummaries.{group_summary_in}
use Rattle.std.specs.List.Sorted.{IsPermutation}
use Rattle.group_tables.specs.Shards.{all_entries, entries_in}
use Rattle.group_tables.specs.Inside.Summaries.{entry_summaries}
use Rattle.group_tables.specs.declared.group.Group.{Group}
use Rattle.group_tables.specs.declared.shard.Shard.{Shard}

-- Groups are those of a shard, in the order in which it has them.
abbrev pub AreGroupsOfShard : Shard → List Group → Type 0
AreGroupsOfShard shard groups = map group_summary_in groups ≡ entry_summaries (entries_in shard)

-- There is a part for each shard, which has its groups, where it was made.
abbrev pub AreGroupsOfEach : List Shard → List (Result (Vec Group) AllocError) → Type 0
AreGroupsOfEach [] [] = Unit {0}
AreGroupsOfEach [] (part ∷ parts) = ⊥
AreGroupsOfEach (shard ∷ shards) [] = ⊥
AreGroupsOfEach (shard ∷ shards) (part ∷ parts) = IfOk part (λ groups. AreGroupsOfShard shard groups.items) × AreGroupsOfEach shards parts

-- Groups are those of shards, in some order.
abbrev pub AreGroupsOfShards : List Shard → List Group → Type 0
AreGroupsOfShards shards groups = IsPermutation (entry_summaries (all_entries shards)) (map group_summary_in groups)
