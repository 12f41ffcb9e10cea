-- The keys of the code's hashed maps.
use Rattle.semantics.specs.Groups.{Key}
use Rattle.group_tables.specs.declared.packed_key.PackedKey.{PackedKey}

-- The key of which a packed key has the code.
abbrev pub key_in : PackedKey → Key
key_in key = key.of_key.0
