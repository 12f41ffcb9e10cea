-- The codes of rows stand to each other as the rows do.
use Rattle.std.proofs.Common.{◌≡◌, ◌++◌, ℕ, suc, List, [], ◌∷◌, length, slice_index_or}
use Rattle.std.proofs.lemmas.Map.Lookups.{exact_unsigned}
use Rattle.std.specs.declared.cmp.Ordering.{Ordering}
use Rattle.std.specs.declared.cmp.Ordering.TheVariants.{Equal}
use Rattle.std.specs.Ordering.{nat_cmp, ordering_then}
use Rattle.semantics.specs.ResultRows.{ResultRow}
use Rattle.semantics.specs.Groups.{key_order}
use Rattle.semantics.specs.Order.{compare_by_key}
use Rattle.semantics.specs.Syntax.{SortKey}
use Rattle.semantics.specs.Values.{Datum, null}
use Rattle.sort_keys.specs.Codes.{index_code, values_code}
use Rattle.sort_keys.specs.SortKeys.{parts_of, parts_order}
use Rattle.sort_keys.proofs.Told.{AreBytes, Told, alike, parts-tell, told-then}
use Rattle.sort_keys.proofs.Values.{bytes-both, index-bytes, indexes-tell, key-bytes, key-tell, keys-tell, values-bytes}
use Rattle.report_rows.specs.Inside.SortEntries.{AreCodable, CodedForm, IsCodableRow, coded_code, coded_value, keys_code, row_code, under_coded}

-- how two lists of values stand to each other, where the first key is for the values at a place and
-- each other one for those at the next: as under the first key that tells its values apart; there
-- is NULL behind the end of a list
abbrev pub under_values : ℕ → List SortKey → List Datum → List Datum → Ordering
under_values place [] xs ys = Equal
under_values place (k ∷ ks) xs ys = ordering_then (compare_by_key k (slice_index_or xs place null) (slice_index_or ys place null)) (under_values (suc place) ks xs ys)

-- how two rows stand to each other by the index of their grouping set, and in one set by their keys
abbrev pub by_key : ResultRow → ResultRow → Ordering
by_key x y = ordering_then (nat_cmp x.0 y.0) (key_order x.1.key y.1.key)

values-tell : (cs : List CodedForm) (x y : ResultRow) → AreCodable x cs → AreCodable y cs → Told (under_coded cs x y) (keys_code x cs) (keys_code y cs)
values-tell [] x y a b = alike
values-tell (c ∷ cs) x y a b = told-then (key-tell c.0 (coded_value x c) (coded_value y c) a.0 b.0) (λ _. values-tell cs x y a.1 b.1)

keys-bytes : (cs : List CodedForm) (x : ResultRow) → AreCodable x cs → AreBytes (keys_code x cs)
keys-bytes [] x a = tt
keys-bytes (c ∷ cs) x a = bytes-both (coded_code x c) (keys_code x cs) (key-bytes c.0 (coded_value x c) a.0) (keys-bytes cs x a.1)

row-bytes : (cs : List CodedForm) (x : ResultRow) → IsCodableRow cs x → AreBytes (row_code cs x)
row-bytes cs x a =
    bytes-both (keys_code x cs) (index_code x.0 ++ values_code x.1.key) (keys-bytes cs x a.values) (bytes-both (index_code x.0) (values_code x.1.key) (index-bytes x.0 a.index) (values-bytes x.1.key a.key))

row-tell : (cs : List CodedForm) (x y : ResultRow) → IsCodableRow cs x → IsCodableRow cs y → (x.0 ≡ y.0 → length x.1.key ≡ length y.1.key)
    → Told (ordering_then (under_coded cs x y) (by_key x y)) (row_code cs x) (row_code cs y)
row-tell cs x y a b long =
    told-then (values-tell cs x y a.values b.values) (λ _. told-then (indexes-tell x.0 y.0 a.index b.index) (λ same. keys-tell x.1.key y.1.key a.key b.key (long (exact_unsigned x.0 y.0 same))))

-- by their codes rows stand as by their values for the keys, then by the indexes of their grouping
-- sets, and in one set by their keys; the keys of one set are equally long
pub codes-tell : (cs : List CodedForm) (x y : ResultRow) → IsCodableRow cs x → IsCodableRow cs y → (x.0 ≡ y.0 → length x.1.key ≡ length y.1.key)
    → parts_order (parts_of (row_code cs x)) (parts_of (row_code cs y)) ≡ ordering_then (under_coded cs x y) (by_key x y)
codes-tell cs x y a b long = parts-tell (row-tell cs x y a b long) (row-bytes cs x a) (row-bytes cs y b)
