-- The groups of records are groups that the reader of parts takes.
use Rattle.std.proofs.Common.{◌≡◌, ◌+◌, ◌<◌, ◌≤◌, ℕ, Bool, true, false, cond, List, [], ◌∷◌, length, map, None, refl, sym, ap, subst, ◌∙◌, sum_by, arith}
use Rattle.std.proofs.lemmas.List.Sums.{sum_by-cons}
use Rattle.std.proofs.lemmas.Bool.{lt-ltb}
use Rattle.std.proofs.lemmas.List.{length-map}
use Rattle.std.specs.Cmp.{tied_itself}
use Rattle.std.specs.List.{AllByRecursion}
use Rattle.std.specs.List.Sorted.{IsStrictlySortedBy}
use Rattle.std.specs.Ordering.{is_eq}
use Rattle.std.specs.Prelude.{IsTrue}
use Rattle.semantics.specs.Aggregates.{AggregateFunction}
use Rattle.semantics.specs.Columns.{Field}
use Rattle.semantics.specs.ResultRows.{aggregate_functions, group_summary}
use Rattle.semantics.specs.GroupStates.{entries_over, entry_over, function_state}
use Rattle.semantics.specs.Groups.{Key, Record, key_order, keys, members, project, same_key}
use Rattle.semantics.specs.Lists.{sorted_by}
use Rattle.semantics.specs.Records.{Fits}
use Rattle.semantics.specs.Sets.{grouping_places}
use Rattle.semantics.specs.Syntax.{Query}
use Rattle.group_tables.proofs.Ascending.{in_order-sorted}
use Rattle.group_tables.proofs.Bags.{sum_by-map}
use Rattle.group_tables.proofs.Covering.{lines-add_up}
use Rattle.group_tables.proofs.GroupsLaw.{keys-distinct}
use Rattle.group_tables.proofs.Order.{key_total}
use Rattle.group_tables.proofs.Sorting.{sum_by-in_order}
use Rattle.tables.proofs.Bags.{all-distinct, all-everywhere, all-filter}
use Rattle.part_lines.specs.Groups.{ShapeForm}
use Rattle.part_lines.specs.Known.{AreGroupsFor, AreStatesFor, IsAbove, IsKeyFor}
use Rattle.part_lines.specs.Reading.{Before, after, can_have_members}
use Rattle.parts.specs.ReadingParts.{can_have, shape_under, type_at}
use Rattle.parts.proofs.Lists.{all-ordered, distinct-le, length-ordered, weaker}
use Rattle.parts.proofs.RecordStates.{keys-fit, states-fit}

-- ---- the keys of records

keys-few : (set : List ℕ) (rows : List Record) → length (keys set rows) ≤ length rows + 1
keys-few [] rows = omega arith
keys-few (place ∷ places) rows =
    let few = distinct-le same_key (map (project (place ∷ places)) rows) in
    let same = length-map rows (project (place ∷ places)) in
    omega (arith, few, same)

-- the members of all keys, in order, are as many as the records
members-counted : (set : List ℕ) (rows : List Record) → sum_by (λ key. length (members set key rows)) (sorted_by key_order (keys set rows)) ≡ length rows
members-counted set rows =
    sum_by-in_order key_order (λ key. length (members set key rows)) (keys set rows)
    ∙ sym (sum_by-map (λ group. group.lines) (λ key. group_summary [] key (members set key rows)) (keys set rows))
    ∙ lines-add_up set [] rows

-- ---- a key by grouping columns has a member

-- So many records have the key, and a group of it can have so many members.
abbrev HasMembers : List ℕ → List Record → Key → Type 0
HasMembers set rows key = 0 < length (members set key rows)

-- one more record takes no member away
with_one : (set : List ℕ) (row : Record) (rows : List Record) (key : Key) → HasMembers set rows key → HasMembers set (row ∷ rows) key
with_one set row rows key h =
    elim (same_key key (project set row)) as (λ (b : Bool). 0 < length (cond b (row ∷ members set key rows) (members set key rows))) [
      | true ↦ omega arith
      | false ↦ h
    ]

-- the key of a record has that record
own-member : (set : List ℕ) (row : Record) (rows : List Record) → HasMembers set (row ∷ rows) (project set row)
own-member set row rows =
    let same : same_key (project set row) (project set row) ≡ true = ap is_eq (tied_itself key_total (project set row)) in
    subst (λ (b : Bool). 0 < length (cond b (row ∷ members set (project set row) rows) (members set (project set row) rows))) (sym same) (omega arith)

all-members : (set : List ℕ) (rows : List Record) → AllByRecursion (HasMembers set rows) (map (project set) rows)
all-members set [] = tt
all-members set (row ∷ rows) = (own-member set row rows, weaker (with_one set row rows) (map (project set) rows) (all-members set rows))

-- A group of these columns can have as many members as a key has.
abbrev AreMembersFor : List Field → List ℕ → List Record → Key → Type 0
AreMembersFor fields set rows key = IsTrue (can_have_members (map (type_at fields) set) (length (members set key rows)))

members-possible : (fields : List Field) (set : List ℕ) (rows : List Record) → AllByRecursion (AreMembersFor fields set rows) (keys set rows)
members-possible fields [] rows = (refl, tt)
members-possible fields (place ∷ places) rows =
    let set : List ℕ = place ∷ places in
    all-distinct (AreMembersFor fields set rows) same_key (map (project set) rows)
    (weaker (λ key some. lt-ltb 0 (length (members set key rows)) some) (map (project set) rows) (all-members set rows))

-- ---- groups

-- The groups of these keys fit, one behind the other, where each key does, has as many members as
-- it can have, is above the last one and before the keys behind it, and there are no more members
-- of them all than are left.
entries-fit : (shape : ShapeForm) (set : List ℕ) (functions : List AggregateFunction) (rows : List Record)
    → ((key : Key) → AreStatesFor (length (members set key rows)) shape.states (map (λ f. function_state f (members set key rows)) functions))
    → (before : Before) (ks : List Key) → AllByRecursion (IsKeyFor shape.columns) ks
    → AllByRecursion (λ key. IsTrue (can_have_members shape.columns (length (members set key rows)))) ks → AllByRecursion (IsAbove key_order before.last) ks → IsStrictlySortedBy key_order ks
    → sum_by (λ key. length (members set key rows)) ks ≤ before.left
    → AreGroupsFor shape before (map (entry_over set functions rows) ks)
unfolding IsStrictlySortedBy
entries-fit shape set functions rows states before [] fit possible above sorted few = tt
entries-fit shape set functions rows states before (k ∷ ks) fit possible above sorted few =
    let sum = sum_by-cons (λ key. length (members set key rows)) k ks in (
      record { key = fit.0; above = above.0; members = omega (arith, few, sum); possible = possible.0; states = states k },
      entries-fit shape set functions rows states (after before (entry_over set functions rows k)) ks fit.1 possible.1 sorted.0 sorted.1 (omega (arith, few, sum)),
    )

-- the groups of records that fit are read, where no fewer members are left than there are records
pub groups-fit : (fields : List Field) (q : Query) (rows : List Record) (left : ℕ) → AllByRecursion (Fits fields) rows → length rows ≤ left
    → AreGroupsFor (shape_under fields q) (record { last = None; left = left }) (entries_over (grouping_places fields q) (aggregate_functions fields q) rows)
groups-fit fields q rows left fit few =
    let set = grouping_places fields q in
    let ks = keys set rows in
    let counted = members-counted set rows in
    entries-fit (shape_under fields q) set (aggregate_functions fields q) rows
    (λ key. states-fit fields q (members set key rows) (all-filter (Fits fields) (λ row. same_key key (project set row)) rows fit))
    (record { last = None; left = left }) (sorted_by key_order ks)
    (all-ordered key_order (IsKeyFor (map (type_at fields) set)) ks (keys-fit fields set rows fit))
    (all-ordered key_order (AreMembersFor fields set rows) ks (members-possible fields set rows))
    (all-everywhere (IsAbove key_order None) (sorted_by key_order ks) (λ key. tt))
    (in_order-sorted key_total ks (keys-distinct set rows))
    (omega (arith, counted, few))

possible : (fields : List Field) (set : List ℕ) (functions : List AggregateFunction) (rows : List Record)
    → can_have (map (type_at fields) set) (length (entries_over set functions rows)) ≡ true
possible fields [] functions rows = refl
possible fields (place ∷ places) functions rows = refl

-- without grouping columns there is exactly one group
pub groups-possible : (fields : List Field) (q : Query) (rows : List Record)
    → can_have (shape_under fields q).columns (length (entries_over (grouping_places fields q) (aggregate_functions fields q) rows)) ≡ true
groups-possible fields q rows = possible fields (grouping_places fields q) (aggregate_functions fields q) rows

-- there are no more groups than records, but for the one of no records
pub groups-few : (fields : List Field) (q : Query) (rows : List Record)
    → length (entries_over (grouping_places fields q) (aggregate_functions fields q) rows) ≤ length rows + 1
groups-few fields q rows =
    let set = grouping_places fields q in
    let ks = keys set rows in
    let same = length-map (sorted_by key_order ks) (entry_over set (aggregate_functions fields q) rows) in
    let ordered = length-ordered key_order ks in
    let few = keys-few set rows in
    omega (arith, same, ordered, few)
