-- A table of groups, apart from where it lies in memory, and what it is for a table to be that of a
-- list of records.
use Rattle.group_tables.specs.declared.packed_key.PackedKey.{PackedKey}
use Rattle.group_tables.specs.Keys.{key_in}
use Rattle.std.specs.Prelude.{◌≡◌, ◌+◌, ◌-◌, ◌<◌, ◌≤◌, ◌^◌, ℕ, Bool, List, map, length, ◌∷◌, ◌++◌, Option, Some, None, IfSome, IsSome, unwrap_or, if◌then◌else◌, []}
use Rattle.std.specs.Coded.{Coded}
use Rattle.std.specs.FinMap as fin
use Rattle.std.specs.List.{IsDistinct, list_any, sum_by}
use Rattle.std.specs.Option.{option_map_or}
use Rattle.query_resolve.specs.declared.function.FilteredFunction.{FilteredFunction}
use Rattle.group_tables.specs.Coding.{coded_key}
use Rattle.semantics.specs.Groups.{Record, Key, key_order, same_key, keys, members}
use Rattle.group_tables.specs.Rolled.{finer_keys}
use Rattle.semantics.specs.Aggregates.{AggregateFunction}
use Rattle.group_tables.specs.Functions.{aggregates_of}
use Rattle.group_tables.specs.Group.{GroupState, coded_group, group_state, joint_group}
use Rattle.group_tables.specs.Bags.{SameBag}
use Rattle.group_tables.specs.GroupSummaries.{group_summaries, group_summary_in}
use Rattle.group_tables.specs.declared.group.Group.{Group}

-- What is kept of each group, by its key.
abbrev pub Contents : Type 0
Contents = fin.FinMap key_order GroupState

abbrev pub coded_contents : Coded Contents
coded_contents = fin.code coded_key coded_group

abbrev pub entries_by_key : List (PackedKey × GroupState) → List (Key × GroupState)
entries_by_key entries = map (λ e. (key_in e.0, e.1)) entries

-- The contents of a hashed map of the code.
abbrev pub contents_of : List (PackedKey × GroupState) → Contents
contents_of entries = fin.from_entries (entries_by_key entries)

-- a table is that of a list of records under a grouping set: at each of their keys it has what is
-- kept of the members, and at no other key anything
abbrev pub IsTableOf : List ℕ → List AggregateFunction → Contents → List Record → Type 0
IsTableOf set functions table rows = (key : Key) → fin.get table key ≡ (if list_any (same_key key) (keys set rows) then Some (group_state functions (members set key rows)) else None)

-- What a table has of a key: what is kept of the members of its group.
abbrev pub group_over : List ℕ → List AggregateFunction → List Record → Key → Key × GroupState
group_over set functions rows key = (key, group_state functions (members set key rows))

-- The table of a list of records under a grouping set.
abbrev pub table_of : List ℕ → List AggregateFunction → List Record → Contents
table_of set functions rows = fin.from_entries (map (group_over set functions rows) (keys set rows))

-- a table is that of a list of records under a grouping set, for set functions whose FILTERs are
-- given by their indexes, where the filters keep this
abbrev pub IsTableUnder : List ℕ → List FilteredFunction → List (Record → Bool) → Contents → List Record → Type 0
IsTableUnder set functions filters table rows = IsTableOf set (aggregates_of filters functions) table rows

-- a table is that of no records under a grouping set, whatever the filters keep
abbrev pub IsOfNone : List ℕ → List FilteredFunction → Contents → Type 0
IsOfNone set functions table = (filters : List (Record → Bool)) → IsTableUnder set functions filters table []

-- a table is another one with one more record, of which the marks say which filters keep it:
-- whatever records that is of, and whatever the filters keep of them
abbrev pub HasOneMore : List ℕ → List FilteredFunction → Contents → Record → List Bool → Contents → Type 0
HasOneMore set functions table row marks new =
    (filters : List (Record → Bool)) (rows : List Record)
    → marks ≡ map (λ keeps. keeps row) filters
    → IsTableUnder set functions filters table rows → IsTableUnder set functions filters new (rows ++ row ∷ [])

-- a table is that of the records of two others: whatever records they are of, under one set and for
-- the same functions
abbrev pub IsUnionOf : Contents → Contents → Contents → Type 0
IsUnionOf first second table =
    (set : List ℕ) (functions : List AggregateFunction) (rows more : List Record)
    → IsTableOf set functions first rows → IsTableOf set functions second more → IsTableOf set functions table (rows ++ more)

-- a table under a set is that of the records of another table, under a finer set: whatever records
-- that is of, and whatever the filters keep
abbrev pub IsRollOf : List ℕ → List FilteredFunction → Contents → List ℕ → Contents → Type 0
IsRollOf finer functions table set rolled =
    (filters : List (Record → Bool)) (rows : List Record) → IsTableUnder finer functions filters table rows → IsTableUnder set functions filters rolled rows

-- Groups are all those of a table, in some order: of whatever records it is, their summaries are
-- those of the groups of these
abbrev pub AreGroupsOfTable : Contents → List Group → Type 0
AreGroupsOfTable table groups =
    (set : List ℕ) (functions : List AggregateFunction) (rows : List Record)
    → IsTableOf set functions table rows → SameBag (map group_summary_in groups) (group_summaries set functions rows)

-- The table of some list of records, fewer than 2^63 with one more, whatever the filters keep.
pub record TakesOne (set : List ℕ) (functions : List FilteredFunction) (table : Contents) : Type 0 where
  pub filters : List (Record → Bool)
  pub rows : List Record
  pub is_table : IsTableUnder set functions filters table rows
  pub few : length rows + 1 < 2 ^ 63

-- What a table keeps of some keys, put together.
abbrev pub group_of_keys : List AggregateFunction → Contents → List Key → GroupState
group_of_keys functions table [] = group_state functions []
group_of_keys functions table (key ∷ keys) = joint_group (unwrap_or (fin.get table key) (group_state functions [])) (group_of_keys functions table keys)

-- a table under a set keeps of each group what another one, under a finer set, keeps of the keys
-- that have its values, put together: whatever records both are of
abbrev pub HasGroupsOfFiner : List ℕ → List AggregateFunction → Contents → List ℕ → Contents → Type 0
HasGroupsOfFiner finer functions table set rolled =
    (key : Key) (group : GroupState) (rows : List Record)
    → IsTableOf finer functions table rows → IsTableOf set functions rolled rows
    → fin.get rolled key ≡ Some group → group ≡ group_of_keys functions table (finer_keys finer set key rows)

-- a table under the empty set has the group of the empty key
abbrev pub HasEmptyKey : List ℕ → Contents → Type 0
HasEmptyKey set table = set ≡ [] → IsSome (fin.get table [])

-- ---- how many records, whatever they are

-- How many records a group has; where there is no group, none.
abbrev pub lines_of : Option GroupState → ℕ
lines_of None = 0
lines_of (Some group) = group.lines

-- Of whatever different keys, the groups of a table have at most so many records together; and each
-- group has one accumulator for each function.
pub record IsCounted (most : ℕ) (functions : List FilteredFunction) (table : Contents) : Type 0 where
  pub lines : (ks : List Key) → IsDistinct same_key ks → sum_by (λ k. lines_of (fin.get table k)) ks ≤ most
  pub parts : (k : Key) → IfSome (fin.get table k) (λ group. length group.parts ≡ length functions)

-- The groups of a table have fewer than 2^63 records together.
abbrev pub HasFewRecords : List FilteredFunction → Contents → Type 0
HasFewRecords functions table = IsCounted (2 ^ 63 - 1) functions table

-- The groups of a table that is made of another one have no more records together than those of
-- that one
abbrev pub KeepsCount : List FilteredFunction → Contents → Contents → Type 0
KeepsCount functions table rolled = (most : ℕ) → IsCounted most functions table → IsCounted most functions rolled

-- ---- steps

abbrev pub joint_option : Option GroupState → Option GroupState → Option GroupState
joint_option None b = b
joint_option (Some a) None = Some a
joint_option (Some a) (Some b) = Some (joint_group a b)

-- At the key k the table has what both have.
abbrev pub IsJoined : Contents → Contents → Contents → Key → Type 0
IsJoined old other new k = fin.get new k ≡ joint_option (fin.get old k) (fin.get other k)

-- a group of the second table, put to that of its key in the first one, where there is one
abbrev pub joint_entry : Contents → Key × GroupState → Key × GroupState
joint_entry first entry = (entry.0, option_map_or (λ kept. joint_group kept entry.1) (fin.get first entry.0) entry.1)

-- The groups of two tables: of a key that both have, what both keep, put together.
abbrev pub both_tables : Contents → Contents → Contents
both_tables first second = fin.from_entries (map (joint_entry first) (fin.entries second) ++ fin.entries first)

-- At each key the table has what both have.
abbrev pub HasGroupsOfBoth : Contents → Contents → Contents → Type 0
HasGroupsOfBoth old other new = (key : Key) → IsJoined old other new key

-- a group takes a part
abbrev pub IsFitting : GroupState → Option GroupState → Type 0
IsFitting part group = IfSome group (λ g. (g.lines + part.lines < 2 ^ 63) × (length part.parts ≡ length g.parts))

-- Each group of the other table is a part that the group of its key takes, where there is one.
abbrev pub CanJoin : Contents → Contents → Type 0
CanJoin table other = (key : Key) → IfSome (fin.get other key) (λ part. IsFitting part (fin.get table key))
