use Rattle.std.proofs.Common.{◌≡◌}
use Rattle.group_tables.specs.Shards.{entries_in}
use Rattle.group_tables.specs.Inside.Table.{TakesEach, group_with_entries}
use Rattle.group_tables.proofs.shard.Shard.put_copies_to.Given as goal

-- the group takes the parts that are left, and with them it is that with all parts
abbrev pub invariant-loop-key : goal.invariant-loop-key
invariant-loop-key l = record {
  takes : TakesEach l.group l._key-iterator;
  joined : group_with_entries l.group l._key-iterator ≡ group_with_entries l.fn.group (entries_in l.self);
}
