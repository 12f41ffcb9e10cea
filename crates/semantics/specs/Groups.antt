-- The keys of a grouping set, and the members of each (ISO/IEC 9075-2, <group by clause>). Each
-- record is a member of exactly one group of a set (`members_law` of group_tables); the members of
-- a key are those of the finer keys that agree with it (`roll_law`); and the order of the records
-- changes neither (`records_law`).
use Rattle.std.specs.Cmp.Lexicographic.{slice_cmp}
use Rattle.std.specs.List.{enumerate_from, flat_map}
use Rattle.std.specs.Ordering.{eq_by_cmp}
use Rattle.std.specs.Prelude.{ℕ, List, slice_index_or, Bool, [], ◌∷◌, map, filter}
use Rattle.std.specs.declared.cmp.Ordering.{Ordering}
use Rattle.semantics.specs.Lists.{distinct}
use Rattle.semantics.specs.Values.{Datum, null, value_order}

-- The values of a record, one for each column.
abbrev pub Record : Type 0
Record = List Datum

-- The value in the column at a place; if there is no such column it counts as NULL.
abbrev pub value_at : ℕ → Record → Datum
value_at place row = slice_index_or row place null

-- The values in the columns of a grouping set.
abbrev pub Key : Type 0
Key = List Datum

-- The key of a record: its values in the columns of a grouping set, which are given by their
-- places.
abbrev pub project : List ℕ → Record → Key
project set row = map (λ place. value_at place row) set

-- The order of keys: that of the first values in which they differ.
abbrev pub key_order : Key → Key → Ordering
key_order = slice_cmp value_order

-- Two keys are the same if neither is before the other: they are equally long, and their values
-- are the same, NULL being the same as NULL.
abbrev pub same_key : Key → Key → Bool
same_key k l = eq_by_cmp key_order k l

-- The different keys of a list of records under a grouping set. The empty set has exactly one
-- key, the empty one, even over no records.
abbrev pub keys : List ℕ → List Record → List Key
keys [] rows = [] ∷ []
keys (place ∷ places) rows = distinct same_key (map (project (place ∷ places)) rows)

-- The members of a key: the records that have it.
abbrev pub members : List ℕ → Key → List Record → List Record
members set key rows = filter (λ row. same_key key (project set row)) rows

-- A group of one of the grouping sets: the index of its set in the list of sets, its key, and its
-- members.
pub record SetGroup : Type 0 where
  pub index : ℕ
  pub key : Key
  pub members : List Record

-- The groups of a list of records: of each set of the list, by its index from 0, and each of its
-- keys, the members.
abbrev pub groups : List (List ℕ) → List Record → List SetGroup
groups sets rows =
    flat_map (λ s.
    map (λ key. record { index = s.0; key = key; members = members s.1 key rows })
    (keys s.1 rows))
    (enumerate_from 0 sets)
