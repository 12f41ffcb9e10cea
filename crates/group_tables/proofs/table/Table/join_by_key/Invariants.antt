use Rattle.std.proofs.Common.{◌≡◌, IfSome}
use Rattle.std.specs.List.{IsDistinct}
use Rattle.std.specs.Map.{keys_of}
use Rattle.std.specs.FinMap.{get, find}
use Rattle.semantics.specs.Groups.{Key, key_order}
use Rattle.group_tables.specs.Inside.Keys.{key_eq}
use Rattle.group_tables.specs.Shards.{all_entries}
use Rattle.group_tables.specs.Table.{IsFitting, joint_option, entries_by_key}
use Rattle.group_tables.proofs.table.Table.join_by_key.Given as goal

-- the groups so far with those of the shards that are left are those of both, and what is left fits
abbrev pub invariant-loop-shard : goal.invariant-loop-shard
invariant-loop-shard l = record {
  joined : (k : Key) → joint_option (get l.joined k) (find key_order k (entries_by_key (all_entries l.shard-iterator.rest.items))) ≡ joint_option (get l.fn.self k) (get l.fn.other k);
  fits : (k : Key) → IfSome (find key_order k (entries_by_key (all_entries l.shard-iterator.rest.items))) (λ p. IsFitting p (get l.joined k));
  distinct : IsDistinct key_eq (keys_of (all_entries l.shard-iterator.rest.items));
}
