-- A table of groups, apart from where it lies in memory, and what it is for a table to be that of a
-- list of records.
use Rattle.group_tables.specs.declared.packed_key.PackedKey.{PackedKey}
use Rattle.std.specs.Prelude.{⊤, ◌≡◌, ◌+◌, ◌<◌, ◌≤◌, ◌^◌, ℕ, Bool, cond, List, length, ◌∷◌, Option, Some, IfSome, unwrap_or, []}
use Rattle.std.specs.FinMap as fin
use Rattle.values.specs.Datum.{data_of}
use Rattle.query_resolve.specs.declared.function.FilteredFunction.{FilteredFunction}
use Rattle.semantics.specs.Groups.{Record, Key, same_key, members}
use Rattle.group_tables.specs.Rows.{IsNarrowRow}
use Rattle.group_tables.specs.Group.{GroupState, joint_group}
use Rattle.group_tables.specs.Inside.Group.{no_group, with_row}
use Rattle.group_tables.specs.declared.part.Part.{Part}
use Rattle.group_tables.specs.declared.part.Part.TheVariants as taken
use Rattle.group_tables.specs.Table.{Contents, joint_option, IsFitting}

-- ---- steps

-- What is kept of a group after one more record, of which the marks say which filters keep it; of a
-- group that is new, after its first one
abbrev pub group_with_record : List FilteredFunction → List Bool → Option GroupState → Record → GroupState
group_with_record functions marks old row = with_row functions marks (unwrap_or old (no_group functions)) row

-- At the key k the table has the record added, where it is the record's key, and else what it had.
abbrev pub IsAdded : List FilteredFunction → List Bool → Contents → Contents → Key → Record → Key → Type 0
IsAdded functions marks old new key row k = fin.get new k ≡ cond (same_key k key) (Some (group_with_record functions marks (fin.get old k) row)) (fin.get old k)

-- At the key k the table has one more part of the group of a key.
abbrev pub IsPut : Contents → Contents → Key → GroupState → Key → Type 0
IsPut old new key part k = fin.get new k ≡ cond (same_key k key) (joint_option (fin.get old k) (Some part)) (fin.get old k)

-- What is kept of a group after one more part; of a group that is new, after its first one.
abbrev pub group_with_members : List FilteredFunction → Option GroupState → GroupState → GroupState
group_with_members functions old part = joint_group (unwrap_or old (no_group functions)) part

-- At the key k the table has one more part of the group of a key, put to what it had or to nothing.
abbrev pub IsEnlarged : List FilteredFunction → Contents → Contents → Key → GroupState → Key → Type 0
IsEnlarged functions old new key part k = fin.get new k ≡ cond (same_key k key) (Some (group_with_members functions (fin.get old k) part)) (fin.get old k)

-- a group takes one more record
abbrev pub HasPlace : List FilteredFunction → Option GroupState → Type 0
HasPlace functions group = IfSome group (λ g. (g.lines + 1 < 2 ^ 63) × (length g.parts ≡ length functions))

-- a part that a group takes, or a new one for these functions
abbrev pub IsFittingNew : List FilteredFunction → GroupState → Option GroupState → Type 0
IsFittingNew functions part group = IsFitting part group × (part.lines < 2 ^ 63) × (length part.parts ≡ length functions)

-- a group, or a new one for these functions, takes a part: a record, or what is kept of some
-- members
abbrev pub IsTaken : List FilteredFunction → Option GroupState → Part → Type 0
IsTaken functions group (taken.Record row marks) = IsNarrowRow (data_of row.now) × HasPlace functions group
IsTaken functions group (taken.Copies members) = IsFittingNew functions members.now group

-- What is kept of a group after one more part; of a group that is new, after its first one.
abbrev pub group_with_part : List FilteredFunction → Option GroupState → Part → GroupState
group_with_part functions old (taken.Record row marks) = group_with_record functions marks.now old (data_of row.now)
group_with_part functions old (taken.Copies members) = group_with_members functions old members.now

-- At the key k the table has one more part of the group of a key, put to what it had or to nothing.
abbrev pub IsWithPart : List FilteredFunction → Contents → Contents → Key → Part → Key → Type 0
IsWithPart functions old new key part k = fin.get new k ≡ cond (same_key k key) (Some (group_with_part functions (fin.get old k) part)) (fin.get old k)

-- What is kept of a group after the parts of all entries.
abbrev pub group_with_entries : GroupState → List (PackedKey × GroupState) → GroupState
group_with_entries group [] = group
group_with_entries group (e ∷ entries) = group_with_entries (joint_group group e.1) entries

-- a group takes the parts of all entries, one after the other
abbrev pub TakesEach : GroupState → List (PackedKey × GroupState) → Type 0
TakesEach group [] = ⊤
TakesEach group (e ∷ entries) = (group.lines + e.1.lines < 2 ^ 63) × (length e.1.parts ≡ length group.parts) × TakesEach (joint_group group e.1) entries

-- What is kept of a group is of at most so many records, and has one accumulator for each function.
abbrev pub IsGroupWithin : ℕ → List FilteredFunction → GroupState → Type 0
IsGroupWithin lines functions group = (group.lines ≤ lines) × (length group.parts ≡ length functions)

-- So are all groups of the table.
abbrev pub AreGroupsWithin : ℕ → List FilteredFunction → Contents → Type 0
AreGroupsWithin lines functions table = (key : Key) → IfSome (fin.get table key) (IsGroupWithin lines functions)
