use Rattle.std.proofs.Common.{◌≡◌, ◌++◌}
use Rattle.group_tables.specs.Shards.{all_entries}
use Rattle.group_tables.specs.Inside.Walks.{entries_left}
use Rattle.group_tables.proofs.walk.walks_over.Given as goal

-- the entries of the walks so far, and then those of the shards that are left
abbrev pub invariant-loop-shard : goal.invariant-loop-shard
invariant-loop-shard l = entries_left l.walks.items ++ all_entries l.shard-iterator.rest.items ≡ all_entries l.fn.shards.items
