use Rattle.std.proofs.Common.{◌≡◌, ◌++◌, true, All, map}
use Rattle.group_tables.proofs.pairs.shards_of.Given as goal

-- the shards so far, and then those of the pairs that are left; where all that are left were put
-- together, all were
abbrev pub invariant-loop-pair : goal.invariant-loop-pair
invariant-loop-pair l = record {
  shards : l.shards.items ++ map (λ pair. pair.shard) l.pair-iterator.rest.items ≡ map (λ pair. pair.shard) l.fn.pairs.items;
  joined : All (λ pair. pair.is_joined ≡ true) l.pair-iterator.rest.items → All (λ pair. pair.is_joined ≡ true) l.fn.pairs.items;
}
