use Rattle.std.proofs.Common.{◌≡◌, ◌+◌, ◌<◌, ◌≤◌, ℕ, drop, get_or, length}
use Rattle.semantics.specs.Groups.{Key}
use Rattle.group_tables.specs.Shards.{contents_in}
use Rattle.group_tables.specs.Table.{IsJoined}
use Rattle.group_tables.specs.declared.shard.Shard.{Shard}
use Rattle.group_tables.proofs.pairs.join_in_turn.Given as goal

-- the shards so far are joined, and the others are as they were
abbrev pub invariant-loop-place : goal.invariant-loop-place
invariant-loop-place l = record {
  rest : l.place-iterator.iter.rest.items ≡ drop l.place-iterator.count l.fn.others.items;
  count : l.place-iterator.count + length l.place-iterator.iter.rest.items ≡ length l.fn.shards.items;
  same : length l.joined.items ≡ length l.fn.shards.items;
  left : (i : ℕ) (d : Shard) → l.place-iterator.count ≤ i → get_or l.joined.items i d ≡ get_or l.fn.shards.items i d;
  done : (i : ℕ) (d : Shard) → i < l.place-iterator.count → (k : Key) → IsJoined (contents_in (get_or l.fn.shards.items i d)) (contents_in (get_or l.fn.others.items i d)) (contents_in (get_or l.joined.items i d)) k;
}
