-- The shards of a table. Each keeps the groups of some keys, and which these are is told by a hash
-- of a key's code.
use Rattle.std.specs.Prelude.{◌<◌, ℕ, List, length, get_or}
use Rattle.semantics.specs.Groups.{Key}
use Rattle.group_tables.specs.Table.{CanJoin, IsJoined}
use Rattle.group_tables.specs.declared.shard.Shard.{Shard}
use Rattle.group_tables.specs.Shards.{contents_in}

-- ---- what shards have

-- Each shard can take the groups of the other list's shard of the same place.
abbrev pub CanJoinEach : List Shard → List Shard → Type 0
CanJoinEach shards others = (i : ℕ) (d : Shard) → i < length shards → CanJoin (contents_in (get_or shards i d)) (contents_in (get_or others i d))

-- Each shard of the last list has what those of its place in the other two have.
abbrev pub AreJoined : List Shard → List Shard → List Shard → Type 0
AreJoined shards others joined = (i : ℕ) (d : Shard) → i < length shards → (key : Key) → IsJoined (contents_in (get_or shards i d)) (contents_in (get_or others i d)) (contents_in (get_or joined i d)) key
