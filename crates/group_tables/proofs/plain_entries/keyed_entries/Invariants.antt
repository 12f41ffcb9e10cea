use Rattle.std.proofs.Common.{◌≡◌, ◌++◌, map}
use Rattle.group_tables.specs.Inside.Keyed.{keyed_at, keyed_entry}
use Rattle.group_tables.specs.Shards.{all_entries}
use Rattle.group_tables.proofs.plain_entries.keyed_entries.Given as goal

-- the groups so far, and then those of the shards that are left
abbrev pub invariant-loop-shard : goal.invariant-loop-shard
invariant-loop-shard l = map keyed_entry l.keyed.items ++ map keyed_at (all_entries l.shard-iterator.rest.items) ≡ map keyed_at (all_entries l.fn.shards.items)
