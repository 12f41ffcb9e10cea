-- The shards of a table. Each keeps the groups of some keys, and which these are is told by a hash
-- of a key's code.
use Rattle.group_tables.specs.declared.packed_key.PackedKey.{PackedKey}
use Rattle.std.specs.Prelude.{◌≡◌, ◌++◌, ◌*◌, ◌/◌, ◌%◌, ◌^◌, ◌<◌, ℕ, List, IfSome, length, drop, get_or, replicate}
use Rattle.std.specs.Int.{from_be_bytes, w128}
use Rattle.std.specs.List.{flat_map}
use Rattle.std.specs.FinMap as fin
use Rattle.semantics.specs.Groups.{Key}
use Rattle.sort_keys.specs.Codes.{values_code}
use Rattle.group_tables.specs.Group.{GroupState}
use Rattle.group_tables.specs.Table.{Contents, contents_of}
use Rattle.group_tables.specs.declared.shard.Shard.{Shard}

-- ---- which shard keeps a key

-- The last sixteen bytes of a code, with zeros in front of a shorter one.
abbrev pub last_bytes : List ℕ → List ℕ
last_bytes code = drop (length code) (replicate 16 0 ++ code)

-- The hash of a code, of 32 bits: the number of 128 bits that its last bytes are, the first one
-- highest, is multiplied by the odd one that parts 2^128 in the golden ratio, and the upper 32 of
-- the lowest 128 bits are the hash, as multiplicative hashing has it
unfoldable pub code_hash : List ℕ → ℕ
code_hash code = (from_be_bytes w128 (last_bytes code) * 210306068529402873165736369884012333109) % 2 ^ 128 / 2 ^ 96

-- The hash of a key: that of its code.
abbrev pub digest : Key → ℕ
digest key = code_hash (values_code key)

-- The index of the shard that keeps a key among n of them, below n: as far along them as its digest
-- lies along the numbers of 32 bits
abbrev pub shard_index : ℕ → Key → ℕ
shard_index n key = digest key * n / 4294967296

-- ---- what shards have

-- The entries of a shard.
abbrev pub entries_in : Shard → List (PackedKey × GroupState)
entries_in shard = shard.groups.entries

-- What a shard has.
abbrev pub contents_in : Shard → Contents
contents_in shard = contents_of (entries_in shard)

-- The entries of all shards, one shard after the other.
abbrev pub all_entries : List Shard → List (PackedKey × GroupState)
all_entries shards = flat_map entries_in shards

-- What all shards have.
abbrev pub contents_of_shards : List Shard → Contents
contents_of_shards shards = contents_of (all_entries shards)

-- Each shard has keys of its own place alone, among as many as there are shards.
abbrev pub AreApart : List Shard → Type 0
AreApart shards = (i : ℕ) (d : Shard) (key : Key) → i < length shards → IfSome (fin.get (contents_in (get_or shards i d)) key) (λ _. shard_index (length shards) key ≡ i)
