use Rattle.std.proofs.Common.{◌≡◌, drop}
use Rattle.group_tables.specs.Inside.Group.{no_group}
use Rattle.group_tables.specs.Shards.{all_entries}
use Rattle.group_tables.specs.Inside.Table.{TakesEach, group_with_entries}
use Rattle.group_tables.proofs.table.Table.roll_to_one.Given as goal

-- the group takes the parts of the shards that are left, and with them it is that with the parts of
-- all
abbrev pub invariant-loop-shard : goal.invariant-loop-shard
invariant-loop-shard l = record {
  takes : TakesEach l.group (all_entries (drop l.shard-index l.shard-items));
  joined : group_with_entries l.group (all_entries (drop l.shard-index l.shard-items)) ≡ group_with_entries (no_group l.functions) (all_entries l.shard-items);
}
