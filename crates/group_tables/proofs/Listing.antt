-- The groups of a table as the list that a sort of its entries gives.
use Rattle.std.proofs.Common.{◌≡◌, true, false, ◌||◌, cond, List, [], ◌∷◌, map, Some, None, refl, sym, ap, subst, ◌∙◌, IsPermutation, IsSortedBy}
use Rattle.std.proofs.lemmas.List.Elements.{All-from_recursion, recursion_from_All}
use Rattle.std.proofs.lemmas.List.Sorted.{All-permutation, IsPermutation-map, list_any-IsPermutation}
use Rattle.std.proofs.lemmas.Map.Keys.{IsDistinct-IsPermutation}
use Rattle.std.proofs.lemmas.Simd.{map-map}
use Rattle.std.specs.Cmp.{eq_by_cmp_equiv}
use Rattle.std.specs.FinMap as fin
use Rattle.std.specs.List.{AllByRecursion, IsDistinct, list_any}
use Rattle.std.specs.List.Sorted.{IsStrictlySortedBy}
use Rattle.std.specs.Map.{keys_of}
use Rattle.semantics.specs.Groups.{Key, key_order, same_key}
use Rattle.sort_keys.specs.SortKeys.{SortParts, parts_of}
use Rattle.values.specs.GroupStates.{entries_of, entry_of}
use Rattle.semantics.specs.GroupStates.{EntryForm}
use Rattle.values.specs.declared.group_entry.GroupEntry.{GroupEntry}
use Rattle.group_tables.specs.declared.key_order.Keyed.{Keyed}
use Rattle.group_tables.specs.declared.packed_key.PackedKey.{PackedKey}
use Rattle.group_tables.specs.Entries.{entry_at, table_entries}
use Rattle.group_tables.specs.Group.{GroupState}
use Rattle.group_tables.specs.Inside.Keyed.{is_before, keyed_at, keyed_entry, sort_code}
use Rattle.group_tables.specs.Keys.{key_in}
use Rattle.group_tables.specs.Table.{Contents, contents_of, entries_by_key}
use Rattle.group_tables.proofs.Ascending.{map-sorted}
use Rattle.group_tables.proofs.Codes.{groups-told}
use Rattle.group_tables.proofs.Distinct.{distinct-shown}
use Rattle.group_tables.proofs.Entries.{Entries, key_eq}
use Rattle.group_tables.proofs.Moved.{all-of, ascend-beside, moved-beside}
use Rattle.group_tables.proofs.Order.{key_antisymmetric, key_eq-ties, key_total, same_key-Decides}
use Rattle.group_tables.proofs.Rolling.{get-each}

-- ---- the entries of a table

-- a list whose keys ascend, and in which each key is found that the table has, with the same group,
-- is that of the table's entries
pub in-order : (t : Contents) (es : List (Key × GroupState)) → IsStrictlySortedBy key_order (map (λ e. e.0) es) → ((k : Key) → fin.find key_order k es ≡ fin.get t k) → es ≡ fin.entries t
in-order t es s answers =
    let h = map-sorted key_order es s in
    sym (fin.entries-from_sorted key_order es h)
    ∙ ap fin.entries (fin.same_map key_total key_antisymmetric (fin.from_sorted es) t (λ k. fin.get-from_sorted key_order es k h ∙ answers k))

-- ---- entries that are moved

abbrev shown_key : PackedKey × GroupState → Key
shown_key e = key_in e.0

keys-shown : (es : Entries) → map (λ e. e.0) (entries_by_key es) ≡ map shown_key es
keys-shown [] = refl
keys-shown (e ∷ es) = ap (λ (ks : List Key). shown_key e ∷ ks) (keys-shown es)

-- what the table has of each entry is found among these by its key
found-among : (t : Contents) (es : Entries) (q : Key) → AllByRecursion (λ e. fin.get t (key_in e.0) ≡ Some e.1) es
    → fin.find key_order q (entries_by_key es) ≡ cond (list_any (same_key q) (map shown_key es)) (fin.get t q) None
found-among t [] q all = refl
found-among t (e ∷ es) q all =
    elim (same_key q (key_in e.0)) as (λ b. same_key q (key_in e.0) ≡ b
    → cond b (Some e.1) (fin.find key_order q (entries_by_key es)) ≡ cond (b || list_any (same_key q) (map shown_key es)) (fin.get t q) None) [
      | true ↦ λ h. sym (ap (fin.get t) ((same_key-Decides q (key_in e.0)).0 h) ∙ all.0)
      | false ↦ λ h. found-among t es q all.1
    ] refl

found-all : (es : Entries) (t : Contents) → contents_of es ≡ t → (q : Key) → fin.find key_order q (entries_by_key es) ≡ fin.get t q
found-all es t v q = sym (fin.get-from_entries key_total (entries_by_key es) q) ∙ ap (λ (m : Contents). fin.get m q) v

eq-flips : (x y : PackedKey) → key_eq x y ≡ key_eq y x
eq-flips x y = key_eq-ties x y ∙ (eq_by_cmp_equiv key_total).symm (key_in x) (key_in y) ∙ sym (key_eq-ties y x)

-- moved entries are still of different keys
distinct-moved : (es fs : Entries) → IsDistinct key_eq (keys_of es) → IsPermutation es fs → IsDistinct same_key (map shown_key fs)
distinct-moved es fs d p =
    subst (λ (ks : List Key). IsDistinct same_key ks) (keys-shown fs)
    (distinct-shown fs (IsDistinct-IsPermutation key_eq eq-flips (keys_of es) (keys_of fs) (IsPermutation-map (λ e. e.0) es fs p) d))

-- and are the entries of the table once their keys ascend
entries-moved : (es fs : Entries) (t : Contents) → contents_of es ≡ t → IsDistinct key_eq (keys_of es) → IsPermutation es fs → IsStrictlySortedBy key_order (map shown_key fs)
    → entries_by_key fs ≡ fin.entries t
entries-moved es fs t v d p s =
    let all = get-each es t v d in
    let P : PackedKey × GroupState → Type 0 = λ e. fin.get t (key_in e.0) ≡ Some e.1 in
    let moved_all = recursion_from_All P fs (All-permutation P es fs p (All-from_recursion P es all)) in
    in-order t (entries_by_key fs) (subst (λ (ks : List Key). IsStrictlySortedBy key_order ks) (sym (keys-shown fs)) s)
    (λ q. found-among t fs q moved_all
    ∙ ap (λ b. cond b (fin.get t q) None) (sym (list_any-IsPermutation (same_key q) (map shown_key es) (map shown_key fs) (IsPermutation-map shown_key es fs p)))
    ∙ sym (found-among t es q all) ∙ found-all es t v q)

-- ---- the sort

abbrev code_of : PackedKey × GroupState → SortParts
code_of e = parts_of (sort_code (shown_key e))

abbrev entry_shown : PackedKey × GroupState → EntryForm
entry_shown e = entry_at (shown_key e, e.1)

-- the entries of a table, sorted by what stands beside them, give its list
pub listed : (es : Entries) (t : Contents) (ks zs : List (Keyed GroupEntry)) → contents_of es ≡ t → IsDistinct key_eq (keys_of es)
    → map keyed_entry ks ≡ map keyed_at es → IsPermutation ks zs → IsSortedBy is_before zs → entries_of (map (λ k. k.thing) zs) ≡ table_entries t
listed es t ks zs v d are p up =
    let m = moved-beside entry_of code_of entry_shown es ks zs are p in
    let fs = m.shown in
    let sorted = ascend-beside key_order shown_key code_of (λ _. Unit {0}) (λ a b _ _. groups-told a.0 b.0) zs fs m.codes (all-of (λ _. Unit {0}) (λ _. tt) fs) (distinct-moved es fs d m.permutation) up in
    map-map entry_of (λ (k : Keyed GroupEntry). k.thing) zs
    ∙ m.things
    ∙ sym (map-map entry_at (λ (e : PackedKey × GroupState). (shown_key e, e.1)) fs)
    ∙ ap (map entry_at) (entries-moved es fs t v d m.permutation sorted)
