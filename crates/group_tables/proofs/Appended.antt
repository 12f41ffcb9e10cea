-- A table with one group more, behind all that were there.
use Rattle.std.proofs.Common.{◌≡◌, ◌+◌, ℕ, Bool, true, false, ◌&&◌, cond, List, [], ◌∷◌, ◌++◌, map, length, Option, Some, None, IfSome, refl, sym, ap, subst, ◌∙◌, arith}
use Rattle.std.proofs.lemmas.List.{map-append}
use Rattle.std.proofs.lemmas.List.Elements.{recursion_from_All}
use Rattle.std.specs.declared.cmp.Ordering.{Ordering}
use Rattle.std.specs.declared.cmp.Ordering.TheVariants.{Less, Equal, Greater}
use Rattle.std.specs.FinMap as fin
use Rattle.std.specs.FinMap.Entries.{below_all, find-append}
use Rattle.std.specs.List.{AllByRecursion}
use Rattle.std.specs.List.Sorted.{IsStrictlySortedBy}
use Rattle.std.specs.Ordering.{is_eq, is_lt, ordering_reverse}
use lib.Dec.{T}
use Rattle.semantics.specs.Groups.{Key, key_order, same_key}
use Rattle.query_resolve.specs.declared.function.FilteredFunction.{FilteredFunction}
use Rattle.semantics.specs.GroupStates.{EntryForm, FunctionState}
use Rattle.group_tables.specs.Entries.{AreStatesFor, CountsEntry, IsBehind, IsEntryFor, entry_at, table_entries}
use Rattle.group_tables.specs.Inside.Entries.{kept_group, kept_states}
use Rattle.group_tables.specs.Group.{GroupState}
use Rattle.group_tables.specs.Table.{Contents, IsFitting, joint_option, lines_of}
use Rattle.group_tables.specs.Inside.Table.{IsPut}
use Rattle.group_tables.proofs.Counted.{Grows, grown-lines}
use Rattle.group_tables.proofs.GroupsLaw.{none-found}
use Rattle.group_tables.proofs.Listing.{in-order}
use Rattle.group_tables.proofs.Order.{key_total, same_key-Decides}
use Rattle.group_tables.proofs.Plain.{plain-kept_states}

-- ---- the keys of a table

first : (a b : Bool) → T (a && b) → T a
first true b h = tt
first false b h = h

second : (a b : Bool) → T (a && b) → T b
second true b h = h
second false b h = absurd h

less : (r : Ordering) → T (is_lt r) → r ≡ Less
less Less h = refl
less Equal h = absurd h
less Greater h = absurd h

all-below : (k : Key) (es : List (Key × GroupState)) → T (below_all key_order k es) → AllByRecursion (λ y. key_order k y ≡ Less) (map (λ e. e.0) es)
all-below k [] h = tt
all-below k (e ∷ es) h =
    (less (key_order k e.0) (first (is_lt (key_order k e.0)) (below_all key_order k es) h), all-below k es (second (is_lt (key_order k e.0)) (below_all key_order k es) h))

keys-ascend : (es : List (Key × GroupState)) → T (fin.is_sorted key_order es) → IsStrictlySortedBy key_order (map (λ e. e.0) es)
unfolding IsStrictlySortedBy
keys-ascend [] h = tt
keys-ascend (e ∷ es) h =
    (all-below e.0 es (first (below_all key_order e.0 es) (fin.is_sorted key_order es) h), keys-ascend es (second (below_all key_order e.0 es) (fin.is_sorted key_order es) h))

all-more : (P : Key → Type 0) (ks : List Key) (k : Key) → AllByRecursion P ks → P k → AllByRecursion P (ks ++ k ∷ [])
all-more P [] k all h = (h, tt)
all-more P (x ∷ ks) k all h = (all.0, all-more P ks k all.1 h)

sorted-more : (ks : List Key) (k : Key) → IsStrictlySortedBy key_order ks → AllByRecursion (λ y. key_order y k ≡ Less) ks → IsStrictlySortedBy key_order (ks ++ k ∷ [])
unfolding IsStrictlySortedBy
sorted-more [] k s below = (tt, tt)
sorted-more (x ∷ ks) k s below = (all-more (λ y. key_order x y ≡ Less) ks k s.0 below.0, sorted-more ks k s.1 below.1)

-- ---- a key behind all

turned : (r s : Ordering) → r ≡ ordering_reverse s → s ≡ Less → is_eq r ≡ false
turned r s e h = ap is_eq (e ∙ ap ordering_reverse h)

behind-keys : (key : Key) (es : List (Key × GroupState)) → AllByRecursion (λ entry. key_order entry.key key ≡ Less) (map entry_at es) → AllByRecursion (λ y. key_order y key ≡ Less) (map (λ e. e.0) es)
behind-keys key [] all = tt
behind-keys key (e ∷ es) all = (all.0, behind-keys key es all.1)

other-keys : (key : Key) (ks : List Key) → AllByRecursion (λ y. key_order y key ≡ Less) ks → AllByRecursion (λ y. same_key key y ≡ false) ks
other-keys key [] all = tt
other-keys key (y ∷ ks) all = (turned (key_order key y) (key_order y key) (let o = key_total in o.antisymm key y) all.0, other-keys key ks all.1)

keys-behind : (key : Key) (t : Contents) → IsBehind key (table_entries t) → AllByRecursion (λ y. key_order y key ≡ Less) (map (λ e. e.0) (fin.entries t))
keys-behind key t h = behind-keys key (fin.entries t) (recursion_from_All (λ entry. key_order entry.key key ≡ Less) (table_entries t) h)

absent : (key : Key) (t : Contents) → IsBehind key (table_entries t) → fin.find key_order key (fin.entries t) ≡ None
absent key t h = none-found key (fin.entries t) (other-keys key (map (λ e. e.0) (fin.entries t)) (keys-behind key t h))

-- the table has no group of it
pub none-behind : (key : Key) (t : Contents) → IsBehind key (table_entries t) → fin.get t key ≡ None
none-behind key t h = fin.get-entries t key ∙ absent key t h

pub fits-behind : (key : Key) (t : Contents) (part : GroupState) → IsBehind key (table_entries t) → IsFitting part (fin.get t key)
fits-behind key t part h = subst (λ (o : Option GroupState). IsFitting part o) (sym (none-behind key t h)) tt

-- ---- one group more

-- where there is nothing, a group that is put is there afterwards
put-none : (b : Bool) (o : Option GroupState) (g : GroupState) → (b ≡ true → o ≡ None) → cond b (joint_option o (Some g)) o ≡ cond b (Some g) o
put-none true o g h = ap (λ (x : Option GroupState). joint_option x (Some g)) (h refl)
put-none false o g h = refl

pub got-behind : (old new : Contents) (key : Key) (g : GroupState) → IsBehind key (table_entries old) → ((k : Key) → IsPut old new key g k)
    → (k : Key) → fin.get new k ≡ cond (same_key k key) (Some g) (fin.get old k)
got-behind old new key g h put k =
    put k ∙ put-none (same_key k key) (fin.get old k) g (λ e. ap (fin.get old) ((same_key-Decides k key).0 e) ∙ none-behind key old h)

entries-more : (old new : Contents) (key : Key) (g : GroupState) → IsBehind key (table_entries old) → ((k : Key) → IsPut old new key g k) → fin.entries old ++ (key, g) ∷ [] ≡ fin.entries new
entries-more old new key g h put =
    let es = fin.entries old in
    let more : map (λ e. e.0) (es ++ (key, g) ∷ []) ≡ map (λ e. e.0) es ++ key ∷ [] = map-append (λ e. e.0) es ((key, g) ∷ []) in
    in-order new (es ++ (key, g) ∷ [])
    (subst (λ (ks : List Key). IsStrictlySortedBy key_order ks) (sym more)
    (sorted-more (map (λ e. e.0) es) key (keys-ascend es (fin.entries_sorted old)) (keys-behind key old h)))
    (λ q. find-append key_order key_total es key g q (absent key old h)
    ∙ ap (cond (same_key q key) (Some g)) (sym (fin.get-entries old q))
    ∙ sym (got-behind old new key g h put q))

-- the list of the table has the group behind those that were there
pub list-more : (functions : List FilteredFunction) (entry : EntryForm) (old new : Contents) (g : GroupState) → IsBehind entry.key (table_entries old) → IsEntryFor functions entry
    → g ≡ kept_group functions entry → ((k : Key) → IsPut old new entry.key g k) → table_entries new ≡ table_entries old ++ entry ∷ []
list-more functions entry old new g h form is put =
    ap (map entry_at) (sym (entries-more old new entry.key g h put))
    ∙ map-append entry_at (fin.entries old) ((entry.key, g) ∷ [])
    ∙ ap (λ (x : GroupState). table_entries old ++ entry_at (entry.key, x) ∷ []) is
    ∙ (λ i. table_entries old ++ record { key = entry.key; members = entry.members; states = plain-kept_states functions entry.members entry.states form i } ∷ [])

-- ---- its records

-- there was no group of the key
none-at : (key : Key) (t : Contents) → IsBehind key (table_entries t) → (k : Key) → same_key k key ≡ true → fin.get t k ≡ None
none-at key t h k e = ap (fin.get t) ((same_key-Decides k key).0 e) ∙ none-behind key t h

one-lines : (b : Bool) (o : Option GroupState) (g : GroupState) → (b ≡ true → o ≡ None) → lines_of (cond b (Some g) o) ≡ cond b (lines_of o + g.lines) (lines_of o)
one-lines true o g h = let e = ap lines_of (h refl) in omega (arith, e)
one-lines false o g h = refl

kept-length : (functions : List FilteredFunction) (members : ℕ) (states : List FunctionState) → AreStatesFor functions members states → length (kept_states functions states) ≡ length functions
kept-length [] members [] h = refl
kept-length [] members (s ∷ ss) h = elim h [ ]
kept-length (f ∷ fs) members [] h = elim h [ ]
kept-length (f ∷ fs) members (s ∷ ss) h = let e = kept-length fs members ss h.1 in omega (arith, e)

one-parts : (functions : List FilteredFunction) (b : Bool) (o : Option GroupState) (g : GroupState) → length g.parts ≡ length functions → IfSome o (λ h. length h.parts ≡ length functions)
    → IfSome (cond b (Some g) o) (λ h. length h.parts ≡ length functions)
one-parts functions true o g e p = e
one-parts functions false o g e p = p

-- with the members of the group the table has no more records than it may have
pub counted-more : (functions : List FilteredFunction) (entry : EntryForm) (old new : Contents) → IsBehind entry.key (table_entries old) → IsEntryFor functions entry
    → ((k : Key) → fin.get new k ≡ cond (same_key k entry.key) (Some (kept_group functions entry)) (fin.get old k)) → CountsEntry functions entry old new
counted-more functions entry old new behind form got most counted =
    let g = kept_group functions entry in
    let grows : Grows old new entry.key entry.members =
    λ k. ap lines_of (got k) ∙ one-lines (same_key k entry.key) (fin.get old k) g (none-at entry.key old behind k) in
    record {
      lines = λ ks different.
          let a = grown-lines old new entry.key entry.members grows ks different in
          let b = counted.lines ks different in
          omega (arith, a, b);
      parts = λ k. subst (λ (o : Option GroupState). IfSome o (λ h. length h.parts ≡ length functions)) (sym (got k))
          (one-parts functions (same_key k entry.key) (fin.get old k) g (kept-length functions entry.members entry.states form) (counted.parts k));
    }

-- ---- what the code puts

-- the group of a key that is behind all is there afterwards
pub kept-there : (functions : List FilteredFunction) (entry : EntryForm) (old new : Contents) (g : GroupState) → IsBehind entry.key (table_entries old) → g ≡ kept_group functions entry
    → ((k : Key) → IsPut old new entry.key g k) → (k : Key) → fin.get new k ≡ cond (same_key k entry.key) (Some (kept_group functions entry)) (fin.get old k)
kept-there functions entry old new g behind is put k =
    got-behind old new entry.key g behind put k ∙ ap (λ (x : GroupState). cond (same_key k entry.key) (Some x) (fin.get old k)) is
