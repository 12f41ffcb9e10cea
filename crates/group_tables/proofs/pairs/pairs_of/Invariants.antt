use Rattle.std.proofs.Common.{◌≡◌, ◌++◌, length, map}
use Rattle.group_tables.proofs.pairs.pairs_of.Given as goal

-- the pairs so far, and then the shards that are left
abbrev pub invariant-loop-shard : goal.invariant-loop-shard
invariant-loop-shard l = record {
  shards : map (λ pair. pair.shard) l.pairs.items ++ l.shard-iterator.a.rest.items ≡ l.fn.shards.items;
  others : map (λ pair. pair.other) l.pairs.items ++ l.shard-iterator.b.rest.items ≡ l.fn.others.items;
  same : length l.shard-iterator.a.rest.items ≡ length l.shard-iterator.b.rest.items;
}
