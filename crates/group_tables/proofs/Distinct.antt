-- Entries of which no two have one key.
use Rattle.group_tables.specs.declared.packed_key.PackedKey.{PackedKey}
use Rattle.group_tables.specs.Keys.{key_in}
use Rattle.std.proofs.Common.{◌≡◌, false, [], ◌∷◌, map, sym, ◌∙◌}
use Rattle.std.specs.List.{IsDistinct, AllByRecursion}
use Rattle.std.specs.Map.{keys_of}
use Rattle.semantics.specs.Groups.{same_key}
use Rattle.group_tables.specs.Table.{entries_by_key}
use Rattle.group_tables.proofs.Order.{key_eq-ties}
use Rattle.group_tables.proofs.Entries.{Entries, key_eq}

all-shown : (k : PackedKey) (es : Entries) → AllByRecursion (λ y. key_eq k y ≡ false) (keys_of es) → AllByRecursion (λ y. same_key (key_in k) y ≡ false) (map (λ e. e.0) (entries_by_key es))
all-shown k [] h = tt
all-shown k (e ∷ es) h = (sym (key_eq-ties k e.0) ∙ h.0, all-shown k es h.1)

pub distinct-shown : (es : Entries) → IsDistinct key_eq (keys_of es) → IsDistinct same_key (map (λ e. e.0) (entries_by_key es))
unfolding IsDistinct
distinct-shown [] d = tt
distinct-shown (e ∷ es) d = (all-shown e.0 es d.0, distinct-shown es d.1)
