-- Shards of two tables that are put together, in pairs.
use Rattle.std.specs.Prelude.{◌≡◌, true}
use Rattle.semantics.specs.Groups.{Key}
use Rattle.group_tables.specs.Shards.{contents_in}
use Rattle.group_tables.specs.Table.{CanJoin, IsJoined}
use Rattle.group_tables.specs.declared.pairs.Pair.{Pair}

-- The shard can take the groups of the other one.
abbrev pub CanJoinPair : Pair → Type 0
CanJoinPair pair = CanJoin (contents_in pair.shard) (contents_in pair.other)

-- Where it says so, the shard has the groups of both now.
abbrev pub HasJoined : Pair → Pair → Type 0
HasJoined old new = new.is_joined ≡ true → (key : Key) → IsJoined (contents_in old.shard) (contents_in old.other) (contents_in new.shard) key
