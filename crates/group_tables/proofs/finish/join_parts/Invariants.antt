use Rattle.std.proofs.Common.{List}
use Rattle.group_tables.specs.Inside.GroupsOfShards.{AreGroupsOfEach}
use Rattle.group_tables.specs.Shards.{all_entries}
use Rattle.group_tables.specs.declared.shard.Shard.{Shard}
use Rattle.group_tables.proofs.InParts.{ComesTo}
use Rattle.group_tables.specs.Inside.Summaries.{entry_summaries}
use Rattle.group_tables.proofs.finish.join_parts.Given as goal

-- the groups so far and the parts that are left come to the groups of all shards
abbrev pub invariant-loop-part : goal.invariant-loop-part
invariant-loop-part l = (shards : List Shard) → AreGroupsOfEach shards l.fn.parts.items → ComesTo (entry_summaries (all_entries shards)) l.groups.items l.part-iterator.rest.items
