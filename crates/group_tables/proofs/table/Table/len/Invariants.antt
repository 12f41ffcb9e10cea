use Rattle.std.proofs.Common.{◌≡◌, ◌*◌, ◌^◌, ◌≤◌, length, take}
use Rattle.group_tables.specs.Shards.{all_entries}
use Rattle.group_tables.proofs.table.Table.len.Given as goal

-- the count is that of the entries of the shards so far, each of which has few
abbrev pub invariant-loop-shard : goal.invariant-loop-shard
invariant-loop-shard l = record {
  counted : l.count ≡ length (all_entries (take l.shard-index l.shard-items));
  few : l.count ≤ l.shard-index * 2 ^ 59;
}
