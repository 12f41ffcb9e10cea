-- Walks over the groups of shards.
use Rattle.group_tables.specs.declared.packed_key.PackedKey.{PackedKey}
use Rattle.std.specs.Prelude.{List}
use Rattle.std.specs.List.{flat_map}
use Rattle.group_tables.specs.Group.{GroupState}
use Rattle.group_tables.specs.declared.walk.Walk.{Walk}

-- The entries that walks have not come to, one walk after the other.
abbrev pub entries_left : List Walk → List (PackedKey × GroupState)
entries_left walks = flat_map (λ walk. walk.entries) walks
