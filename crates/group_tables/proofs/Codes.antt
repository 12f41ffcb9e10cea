-- The codes by which groups and values are put in order.
use Rattle.std.proofs.Common.{◌≡◌, ◌++◌, ℕ, ℤ, true, false, List, [], ◌∷◌, append-nil, append_assoc, sym, subst, lit<}
use Rattle.std.specs.declared.cmp.Ordering.TheVariants.{Less, Greater}
use Rattle.std.specs.List.{AllByRecursion}
use Rattle.std.specs.Ordering.{ordering_then}
use Rattle.semantics.specs.Groups.{Key, key_order}
use Rattle.semantics.specs.Values.{Datum, boolean, whole, text, null, value_order}
use Rattle.sort_keys.specs.Codes.{IsCodable, value_code, values_code}
use Rattle.sort_keys.specs.Decoding.{IsStorable}
use Rattle.sort_keys.specs.SortKeys.{parts_of, parts_order}
use Rattle.sort_keys.proofs.Decoding.{codable}
use Rattle.sort_keys.proofs.Told.{AreBytes, Told, alike, less, greater, parts-tell, told-then}
use Rattle.sort_keys.proofs.Values.{Stands, stands, lower, under, over, upper, bytes-both, values-bytes, values-tell}
use Rattle.group_tables.specs.declared.packed_key.PackedKey.{PackedKey}
use Rattle.group_tables.specs.Inside.Keyed.{sort_code}
use Rattle.group_tables.specs.Keys.{key_in}

-- ---- codes behind which a 0 stands

-- the 0 is below a code
number-behind : {z : ℤ} {code : List ℕ} (s : List ℕ) → Stands z code → Told Less (0 ∷ []) (code ++ s)
number-behind s (lower n a b) = less (lit< tt)
number-behind s (under n a) = less (lit< tt)
number-behind s (over n a) = less (lit< tt)
number-behind s (upper n a b) = less (lit< tt)

end-below : (d : Datum) (s : List ℕ) → IsCodable d → Told Less (0 ∷ []) (value_code d ++ s)
end-below (boolean true) s h = less (lit< tt)
end-below (boolean false) s h = less (lit< tt)
end-below (whole n) s h = number-behind s (stands n h)
end-below (text t) s h = less (lit< tt)
end-below null s h = less (lit< tt)

number-above : {z : ℤ} {code : List ℕ} (s : List ℕ) → Stands z code → Told Greater (code ++ s) (0 ∷ [])
number-above s (lower n a b) = greater (lit< tt)
number-above s (under n a) = greater (lit< tt)
number-above s (over n a) = greater (lit< tt)
number-above s (upper n a b) = greater (lit< tt)

above-end : (d : Datum) (s : List ℕ) → IsCodable d → Told Greater (value_code d ++ s) (0 ∷ [])
above-end (boolean true) s h = greater (lit< tt)
above-end (boolean false) s h = greater (lit< tt)
above-end (whole n) s h = number-above s (stands n h)
above-end (text t) s h = greater (lit< tt)
above-end null s h = greater (lit< tt)

first-apart : (d : Datum) (key : Key) → sort_code (d ∷ key) ≡ value_code d ++ sort_code key
first-apart d key = append_assoc (value_code d) (values_code key) (0 ∷ [])

-- so that the codes of keys tell how these stand to each other, however long they are
keys-told : (k l : Key) → AllByRecursion IsCodable k → AllByRecursion IsCodable l → Told (key_order k l) (sort_code k) (sort_code l)
keys-told [] [] a b = alike
keys-told [] (y ∷ l) a b = subst (λ (s : List ℕ). Told Less (0 ∷ []) s) (sym (first-apart y l)) (end-below y (sort_code l) b.0)
keys-told (x ∷ k) [] a b = subst (λ (s : List ℕ). Told Greater s (0 ∷ [])) (sym (first-apart x k)) (above-end x (sort_code k) a.0)
keys-told (x ∷ k) (y ∷ l) a b =
    let o = ordering_then (value_order x y) (key_order k l) in
    subst (λ (s : List ℕ). Told o s (sort_code (y ∷ l))) (sym (first-apart x k))
    (subst (λ (s : List ℕ). Told o (value_code x ++ sort_code k) s) (sym (first-apart y l))
    (told-then (values-tell x y a.0 b.0) (λ _. keys-told k l a.1 b.1)))

sort-bytes : (k : Key) → AllByRecursion IsCodable k → AreBytes (sort_code k)
sort-bytes k a = bytes-both (values_code k) (0 ∷ []) (values-bytes k a) (lit< tt, tt)

all-codable : (key : Key) → AllByRecursion IsStorable key → AllByRecursion IsCodable key
all-codable [] a = tt
all-codable (d ∷ key) a = (codable d a.0, all-codable key a.1)

-- the sort keys of groups stand to each other as their keys do
pub groups-told : (a b : PackedKey) → parts_order (parts_of (sort_code (key_in a))) (parts_of (sort_code (key_in b))) ≡ key_order (key_in a) (key_in b)
groups-told a b =
    let x = all-codable (key_in a) a.of_key.1.0 in
    let y = all-codable (key_in b) b.of_key.1.0 in
    parts-tell (keys-told (key_in a) (key_in b) x y) (sort-bytes (key_in a) x) (sort-bytes (key_in b) y)

value-bytes : (d : Datum) → IsCodable d → AreBytes (value_code d)
value-bytes d h = subst (λ (s : List ℕ). AreBytes s) (append-nil (value_code d)) (values-bytes (d ∷ []) (h, tt))

-- those of values stand to each other as these do
pub values-told : (a b : Datum) → IsCodable a → IsCodable b → parts_order (parts_of (value_code a)) (parts_of (value_code b)) ≡ value_order a b
values-told a b x y = parts-tell (values-tell a b x y) (value-bytes a x) (value-bytes b y)
