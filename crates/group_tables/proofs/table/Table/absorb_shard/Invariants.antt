use Rattle.std.proofs.Common.{◌≡◌, IfSome}
use Rattle.std.specs.List.{IsDistinct}
use Rattle.std.specs.Map.{keys_of}
use Rattle.std.specs.FinMap.{get, find}
use Rattle.semantics.specs.Groups.{Key, key_order}
use Rattle.group_tables.specs.Inside.Keys.{key_eq}
use Rattle.group_tables.specs.Shards.{contents_in}
use Rattle.group_tables.specs.Table.{IsFitting, joint_option, entries_by_key}
use Rattle.group_tables.proofs.table.Table.absorb_shard.Given as goal

-- the groups so far with those that are left are those of both, and what is left fits
abbrev pub invariant-loop-key : goal.invariant-loop-key
invariant-loop-key l = record {
  joined : (k : Key) → joint_option (get l.self k) (find key_order k (entries_by_key l.key-iterator)) ≡ joint_option (get l.fn.self k) (get (contents_in l.fn.shard) k);
  fits : (k : Key) → IfSome (find key_order k (entries_by_key l.key-iterator)) (λ p. IsFitting p (get l.self k));
  distinct : IsDistinct key_eq (keys_of l.key-iterator);
}
