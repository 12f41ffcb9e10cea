use Rattle.std.proofs.Common.{◌≡◌, ◌++◌, map}
use Rattle.group_tables.specs.Inside.Keyed.{keyed_at, keyed_entry}
use Rattle.group_tables.specs.Shards.{entries_in}
use Rattle.group_tables.proofs.plain_entries.put_entries.Given as goal

-- the groups so far, and then those that are left
abbrev pub invariant-loop-key : goal.invariant-loop-key
invariant-loop-key l = map keyed_entry l.keyed.items ++ map keyed_at l.key-iterator ≡ map keyed_entry l.fn.keyed.items ++ map keyed_at (entries_in l.fn.shard)
