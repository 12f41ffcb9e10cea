-- Things beside sort keys.
use Rattle.std.specs.Prelude.{ℕ, Bool, List, ◌∷◌, ◌++◌, []}
use Rattle.std.specs.Ordering.{is_lt}
use Rattle.semantics.specs.Groups.{Key}
use Rattle.semantics.specs.Values.{Datum}
use Rattle.values.specs.GroupStates.{entry_of}
use Rattle.semantics.specs.GroupStates.{EntryForm}
use Rattle.values.specs.declared.group_entry.GroupEntry.{GroupEntry}
use Rattle.sort_keys.specs.Codes.{value_code, values_code}
use Rattle.sort_keys.specs.SortKeys.{SortParts, key_parts, parts_of, parts_order}
use Rattle.values.specs.Datum.{datum_of}
use Rattle.values.specs.declared.value.Value.{Value}
use Rattle.group_tables.specs.declared.key_order.Keyed.{Keyed}
use Rattle.group_tables.specs.declared.packed_key.PackedKey.{PackedKey}
use Rattle.group_tables.specs.Entries.{entry_at}
use Rattle.group_tables.specs.Group.{GroupState}
use Rattle.group_tables.specs.Keys.{key_in}

-- Whether the key of one thing is before that of another one.
abbrev pub is_before : {T : Type 0} → Keyed T → Keyed T → Bool
is_before a b = is_lt (parts_order (key_parts a.key) (key_parts b.key))

-- The code by which a group is put in order: that of its key with a 0 behind it, so that no code is
-- the beginning of another one
abbrev pub sort_code : Key → List ℕ
sort_code key = values_code key ++ 0 ∷ []

-- a group beside its sort key, apart from where it lies in memory
abbrev pub keyed_entry : Keyed GroupEntry → SortParts × EntryForm
keyed_entry k = (key_parts k.key, entry_of k.thing)

-- Those of a hashed map.
abbrev pub keyed_at : PackedKey × GroupState → SortParts × EntryForm
keyed_at e = (parts_of (sort_code (key_in e.0)), entry_at (key_in e.0, e.1))

-- a value beside its sort key
abbrev pub keyed_value : Keyed Value → SortParts × Datum
keyed_value k = (key_parts k.key, datum_of k.thing)

-- That of a value.
abbrev pub keyed_datum : Datum → SortParts × Datum
keyed_datum d = (parts_of (value_code d), d)
