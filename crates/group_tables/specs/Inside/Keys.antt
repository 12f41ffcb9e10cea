-- The keys of the code's hashed maps.
use Rattle.std.specs.Prelude.{Bool, nat_eq}
use Rattle.std.specs.Cmp.Lexicographic.{pointwise}
use Rattle.group_tables.specs.declared.packed_key.PackedKey.{PackedKey}

-- Whether two keys of a hashed map are equal: they have the same bytes.
abbrev pub key_eq : PackedKey → PackedKey → Bool
key_eq x y = pointwise nat_eq x.code.items y.code.items
