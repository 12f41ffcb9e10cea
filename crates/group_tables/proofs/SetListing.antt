-- The values of a set as the list that a sort of them gives.
use Rattle.std.proofs.Common.{◌≡◌, List, [], ◌∷◌, map, sym, ap, subst, ◌∙◌, IsPermutation, IsSortedBy}
use Rattle.std.proofs.lemmas.List.{map-id}
use Rattle.std.proofs.lemmas.List.Elements.{All-from_recursion, recursion_from_All}
use Rattle.std.proofs.lemmas.List.Sorted.{All-permutation, list_any-IsPermutation}
use Rattle.std.proofs.lemmas.Map.Keys.{IsDistinct-IsPermutation}
use Rattle.std.proofs.lemmas.Simd.{map-map}
use Rattle.std.specs.Cmp.{eq_by_cmp_equiv}
use Rattle.std.specs.FinSet as set
use Rattle.std.specs.List.{AllByRecursion, IsDistinct}
use Rattle.std.specs.List.Sorted.{IsStrictlySortedBy}
use Rattle.semantics.specs.Aggregates.{same_value}
use Rattle.semantics.specs.Values.{Datum, value_order}
use Rattle.sort_keys.specs.Codes.{IsCodable, value_code}
use Rattle.sort_keys.specs.SortKeys.{SortParts, parts_of}
use Rattle.values.specs.Datum.{data_of, datum_of}
use Rattle.values.specs.declared.value.Value.{Value}
use Rattle.group_tables.specs.declared.key_order.Keyed.{Keyed}
use Rattle.group_tables.specs.Entries.{ascending_values}
use Rattle.group_tables.specs.Inside.Keyed.{is_before, keyed_datum, keyed_value}
use Rattle.group_tables.specs.Values.{set_of}
use Rattle.group_tables.specs.Inside.Values.{values_in}
use Rattle.group_tables.proofs.Codes.{values-told}
use Rattle.group_tables.proofs.Moved.{ascend-beside, moved-beside}
use Rattle.group_tables.proofs.Order.{value_antisymmetric, value_total}
use Rattle.group_tables.proofs.Plain.{ascending-list}

abbrev itself : Datum → Datum
itself d = d

abbrev code_of : Datum → SortParts
code_of d = parts_of (value_code d)

same-moved : (ds fs : List Datum) → IsPermutation ds fs → set_of fs ≡ set_of ds
same-moved ds fs p = set.same_set value_total value_antisymmetric (set_of fs) (set_of ds) (λ q.
    set.contains-from_list value_total fs q ∙ sym (list_any-IsPermutation (same_value q) ds fs p) ∙ sym (set.contains-from_list value_total ds q))

-- the values of a set of the code, sorted by what stands beside them, are its values, ascending
pub values-listed : (vs : List Value) (ks zs : List (Keyed Value)) → IsDistinct same_value (data_of vs) → AllByRecursion IsCodable (data_of vs)
    → map keyed_value ks ≡ map keyed_datum (data_of vs) → IsPermutation ks zs → IsSortedBy is_before zs → data_of (map (λ k. k.thing) zs) ≡ ascending_values (values_in vs)
values-listed vs ks zs d all are p up =
    let ds = data_of vs in
    let m = moved-beside datum_of code_of itself ds ks zs are p in
    let fs = m.shown in
    let codable = recursion_from_All IsCodable fs (All-permutation IsCodable ds fs m.permutation (All-from_recursion IsCodable ds all)) in
    let apart : IsDistinct same_value fs = IsDistinct-IsPermutation same_value (eq_by_cmp_equiv value_total).symm ds fs m.permutation d in
    let sorted : IsStrictlySortedBy value_order fs =
    subst (λ (xs : List Datum). IsStrictlySortedBy value_order xs) (map-id fs)
    (ascend-beside value_order itself code_of IsCodable values-told zs fs m.codes codable (subst (λ (xs : List Datum). IsDistinct same_value xs) (sym (map-id fs)) apart) up) in
    map-map datum_of (λ (k : Keyed Value). k.thing) zs ∙ m.things ∙ map-id fs ∙ sym (ascending-list fs sorted) ∙ ap ascending_values (same-moved ds fs m.permutation)

-- no value is no list
pub none-listed : data_of [] ≡ ascending_values (values_in [])
unfolding IsStrictlySortedBy
none-listed = sym (ascending-list [] tt)

-- and one value is that list
pub one-listed : (v : Value) → data_of (v ∷ []) ≡ ascending_values (values_in (v ∷ []))
unfolding IsStrictlySortedBy
one-listed v = sym (ascending-list (datum_of v ∷ []) (tt, tt))
