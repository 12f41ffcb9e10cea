-- The list of a table's groups is that of the groups of its records.
use Rattle.std.proofs.Common.{◌≡◌, ℕ, Bool, false, cond, List, [], ◌∷◌, map, Option, Some, None, IfSome, refl, sym, ap, subst, ◌∙◌}
use Rattle.std.proofs.lemmas.Map.Keys.{IsDistinct-from_sorted}
use Rattle.std.specs.Cmp.{eq_by_cmp_equiv}
use Rattle.std.specs.FinMap as fin
use Rattle.std.specs.List.{AllByRecursion, IsDistinct, list_any}
use Rattle.std.specs.List.Sorted.{IsStrictlySortedBy}
use Rattle.semantics.specs.Aggregates.{AggregateFunction}
use Rattle.semantics.specs.Columns.{Field}
use Rattle.semantics.specs.Groups.{Key, Record, key_order, keys, members, same_key}
use Rattle.semantics.specs.Lists.{sorted_by}
use Rattle.query_resolve.specs.declared.function.FilteredFunction.{FilteredFunction}
use Rattle.semantics.specs.GroupStates.{entries_over, entry_over, EntryForm}
use Rattle.group_tables.specs.Functions.{aggregates_of}
use Rattle.group_tables.specs.Entries.{entry_at, table_entries}
use Rattle.group_tables.specs.Group.{GroupState, group_state}
use Rattle.group_tables.specs.Table.{Contents, IsTableOf, IsTableUnder, group_over}
use Rattle.group_tables.specs.Typed.{AreStatesOf, IsTypedTable}
use Rattle.group_tables.proofs.Ascending.{any-in_order, in_order-sorted}
use Rattle.group_tables.proofs.GroupsLaw.{firsts, found, keys-distinct}
use Rattle.group_tables.proofs.Listing.{in-order}
use Rattle.group_tables.proofs.Order.{key_total}
use Rattle.group_tables.proofs.Plain.{plain-states, states-told}

-- ---- of a table of records

abbrev keys_in_order : List ℕ → List Record → List Key
keys_in_order set rows = sorted_by key_order (keys set rows)

keys-sorted : (set : List ℕ) (rows : List Record) → IsStrictlySortedBy key_order (keys_in_order set rows)
keys-sorted set rows = in_order-sorted key_total (keys set rows) (keys-distinct set rows)

-- what is found at a key among the groups of all keys in order
found-in_order : (set : List ℕ) (fs : List AggregateFunction) (rows : List Record) (q : Key) → fin.find key_order q (map (group_over set fs rows) (keys_in_order set rows))
    ≡ cond (list_any (same_key q) (keys set rows)) (Some (group_state fs (members set q rows))) None
found-in_order set fs rows q =
    found (λ k. group_state fs (members set k rows)) q (keys_in_order set rows)
    ∙ ap (λ b. cond b (Some (group_state fs (members set q rows))) None) (any-in_order key_order (same_key q) (keys set rows))

entries-records : (set : List ℕ) (fs : List AggregateFunction) (t : Contents) (rows : List Record) → IsTableOf set fs t rows → map (group_over set fs rows) (keys_in_order set rows) ≡ fin.entries t
entries-records set fs t rows h =
    let ks = keys_in_order set rows in
    in-order t (map (group_over set fs rows) ks) (subst (λ (xs : List Key). IsStrictlySortedBy key_order xs) (firsts set fs rows ks) (keys-sorted set rows))
    (λ q. found-in_order set fs rows q ∙ sym (h q))

entry-of : (set : List ℕ) (fs : List AggregateFunction) (rows : List Record) (k : Key) → entry_at (group_over set fs rows k) ≡ entry_over set fs rows k
entry-of set fs rows k = λ i. record { key = k; members = (entry_over set fs rows k).members; states = plain-states fs (members set k rows) i }

entries-of : (set : List ℕ) (fs : List AggregateFunction) (rows : List Record) (ks : List Key) → map entry_at (map (group_over set fs rows) ks) ≡ map (entry_over set fs rows) ks
entries-of set fs rows [] = refl
entries-of set fs rows (k ∷ ks) = λ i. entry-of set fs rows k i ∷ entries-of set fs rows ks i

pub of-records : (set : List ℕ) (fs : List AggregateFunction) (t : Contents) (rows : List Record) → IsTableOf set fs t rows → table_entries t ≡ entries_over set fs rows
of-records set fs t rows h = ap (map entry_at) (sym (entries-records set fs t rows h)) ∙ entries-of set fs rows (keys_in_order set rows)

-- ---- and back

-- of different keys each is found
later-found : (e : Key × GroupState) (es fs : List (Key × GroupState)) → AllByRecursion (λ y. same_key e.0 y ≡ false) (map (λ f. f.0) fs) → AllByRecursion (λ f. fin.find key_order f.0 es ≡ Some f.1) fs
    → AllByRecursion (λ f. fin.find key_order f.0 (e ∷ es) ≡ Some f.1) fs
later-found e es [] apart all = tt
later-found e es (f ∷ fs) apart all =
    (ap (λ b. cond b (Some e.1) (fin.find key_order f.0 es)) ((eq_by_cmp_equiv key_total).symm f.0 e.0 ∙ apart.0) ∙ all.0, later-found e es fs apart.1 all.1)

each-found : (es : List (Key × GroupState)) → IsDistinct same_key (map (λ e. e.0) es) → AllByRecursion (λ e. fin.find key_order e.0 es ≡ Some e.1) es
unfolding IsDistinct
each-found [] d = tt
each-found (e ∷ es) d = (
  ap (λ b. cond b (Some e.1) (fin.find key_order e.0 es)) ((eq_by_cmp_equiv key_total).refl e.0),
  later-found e es es d.0 (each-found es d.1),
)

typed-each : (fields : List Field) (set : List ℕ) (functions : List FilteredFunction) (t : Contents) (es : List (Key × GroupState)) → IsTypedTable fields set functions t
    → AllByRecursion (λ e. fin.get t e.0 ≡ Some e.1) es → AllByRecursion (λ e. AreStatesOf fields functions e.1.parts) es
typed-each fields set functions t [] typed all = tt
typed-each fields set functions t (e ∷ es) typed all = (
  subst (λ (o : Option GroupState). IfSome o (λ g. AreStatesOf fields functions g.parts)) all.0 (typed.parts e.0),
  typed-each fields set functions t es typed all.1,
)

-- the group that has an entry's plain form
group-told : (fields : List Field) (set : List ℕ) (functions : List FilteredFunction) (filters : List (Record → Bool)) (rows : List Record) (e : Key × GroupState) (k : Key)
    → AreStatesOf fields functions e.1.parts → entry_at e ≡ entry_over set (aggregates_of filters functions) rows k → e ≡ group_over set (aggregates_of filters functions) rows k
group-told fields set functions filters rows e k typed is =
    let key : e.0 ≡ k = ap (λ (x : EntryForm). x.key) is in
    let lines = ap (λ (x : EntryForm). x.members) is in
    let parts = states-told fields functions filters (members set k rows) e.1.parts typed (ap (λ (x : EntryForm). x.states) is) in
    λ i. (key i, record { lines = lines i; parts = parts i })

groups-told : (fields : List Field) (set : List ℕ) (functions : List FilteredFunction) (filters : List (Record → Bool)) (rows : List Record) (es : List (Key × GroupState)) (ks : List Key)
    → AllByRecursion (λ e. AreStatesOf fields functions e.1.parts) es → map entry_at es ≡ map (entry_over set (aggregates_of filters functions) rows) ks → es ≡ map (group_over set (aggregates_of filters functions) rows) ks
groups-told fields set functions filters rows [] [] typed is = refl
groups-told fields set functions filters rows [] (k ∷ ks) typed is = cc
groups-told fields set functions filters rows (e ∷ es) [] typed is = cc
groups-told fields set functions filters rows (e ∷ es) (k ∷ ks) typed is =
    let first : entry_at e ≡ entry_over set (aggregates_of filters functions) rows k = cc in
    let rest : map entry_at es ≡ map (entry_over set (aggregates_of filters functions) rows) ks = cc in
    λ i. group-told fields set functions filters rows e k typed.0 first i ∷ groups-told fields set functions filters rows es ks typed.1 rest i

keys-told : (set : List ℕ) (fs : List AggregateFunction) (rows : List Record) (es : List (Key × GroupState)) (ks : List Key) → map entry_at es ≡ map (entry_over set fs rows) ks → map (λ e. e.0) es ≡ ks
keys-told set fs rows [] [] is = refl
keys-told set fs rows [] (k ∷ ks) is = cc
keys-told set fs rows (e ∷ es) [] is = cc
keys-told set fs rows (e ∷ es) (k ∷ ks) is =
    let first : entry_at e ≡ entry_over set fs rows k = cc in
    let rest : map entry_at es ≡ map (entry_over set fs rows) ks = cc in
    λ i. ap (λ (x : EntryForm). x.key) first i ∷ keys-told set fs rows es ks rest i

all-got : (t : Contents) (fs : List (Key × GroupState)) → AllByRecursion (λ e. fin.find key_order e.0 (fin.entries t) ≡ Some e.1) fs → AllByRecursion (λ e. fin.get t e.0 ≡ Some e.1) fs
all-got t [] all = tt
all-got t (f ∷ fs) all = (fin.get-entries t f.0 ∙ all.0, all-got t fs all.1)

-- a table of the types of columns and set functions that has the list of some records' groups is
-- that of these
pub is-table : (fields : List Field) (set : List ℕ) (functions : List FilteredFunction) (filters : List (Record → Bool)) (t : Contents) (rows : List Record)
    → IsTypedTable fields set functions t → table_entries t ≡ entries_over set (aggregates_of filters functions) rows → IsTableUnder set functions filters t rows
is-table fields set functions filters t rows typed is q =
    let fs = aggregates_of filters functions in
    let ks = keys_in_order set rows in
    let es = fin.entries t in
    let apart : IsDistinct same_key (map (λ e. e.0) es) =
    subst (λ (xs : List Key). IsDistinct same_key xs) (sym (keys-told set fs rows es ks is)) (IsDistinct-from_sorted key_order ks (keys-sorted set rows)) in
    let each = typed-each fields set functions t es typed (all-got t es (each-found es apart)) in
    fin.get-entries t q
    ∙ ap (fin.find key_order q) (groups-told fields set functions filters rows es ks each is)
    ∙ found-in_order set fs rows q
