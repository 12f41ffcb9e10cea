-- The order of values and keys, and the equality of the code's keys.
use Rattle.std.proofs.Common.{◌≡◌, Bool, true, false, refl, sym, ap, subst, ◌∙◌, string_bytes}
use Rattle.std.specs.declared.cmp.Ordering.{Ordering}
use Rattle.std.specs.declared.cmp.Ordering.TheVariants.{Less, Equal, Greater}
use Rattle.std.specs.Bool.{Decides}
use Rattle.std.specs.Ordering.{eq_by_cmp, nat_cmp, int_cmp, is_eq, ordering_then}
use Rattle.std.specs.Cmp.{IsTotalOrder, Equal-is, tied_itself, nat_cmp_total, int_cmp_total, on_total, then_total}
use Rattle.std.specs.Cmp.Lexicographic.{bytes_decides, slice_cmp, lists_total, texts_ties, nat_list_cmp_total}
use Rattle.std.specs.FinMap.{IsAntisymmetric, slice_cmp-IsAntisymmetric}
use Rattle.std.proofs.lemmas.Map.Lookups.{exact_pairs, exact_unsigned, exact_signed, exact_bytes}
use Rattle.semantics.specs.Values.{Datum, boolean, whole, text, null, value_order}
use Rattle.values.specs.Datum.{datum_of}
use Rattle.values.specs.declared.value.Value.{Value}
use Rattle.values.specs.declared.value.Value.TheVariants as v
use Rattle.values.specs.contracts.value.ValuePartialEq.TheImpl.{eq-value}
use Rattle.group_tables.specs.Coding.{parts, datum_of_parts, datum_of_parts-parts}
use Rattle.semantics.specs.Groups.{Key, key_order, same_key}
use Rattle.sort_keys.specs.Codes.{values_code}
use Rattle.sort_keys.proofs.Decoding.{keys-one}
use Rattle.group_tables.specs.Inside.Keys.{key_eq}
use Rattle.group_tables.specs.Keys.{key_in}
use Rattle.group_tables.specs.declared.packed_key.PackedKey.{PackedKey}

abbrev order_of_parts : Datum → Datum → Ordering
order_of_parts a b = ordering_then (nat_cmp (parts a).0 (parts b).0) (ordering_then (int_cmp (parts a).1.0 (parts b).1.0) (slice_cmp nat_cmp (parts a).1.1 (parts b).1.1))

then_nothing : (o : Ordering) → o ≡ ordering_then o Equal
then_nothing Less = refl
then_nothing Equal = refl
then_nothing Greater = refl

value_order-is : (a b : Datum) → value_order a b ≡ order_of_parts a b
value_order-is (boolean true) (boolean true) = refl
value_order-is (boolean true) (boolean false) = refl
value_order-is (boolean false) (boolean true) = refl
value_order-is (boolean false) (boolean false) = refl
value_order-is (boolean a) (whole n) = refl
value_order-is (boolean a) (text s) = refl
value_order-is (boolean a) null = refl
value_order-is (whole m) (boolean b) = refl
value_order-is (whole m) (whole n) = then_nothing (int_cmp m n)
value_order-is (whole m) (text s) = refl
value_order-is (whole m) null = refl
value_order-is (text s) (boolean b) = refl
value_order-is (text s) (whole n) = refl
value_order-is (text s) (text t) = refl
value_order-is (text s) null = refl
value_order-is null (boolean b) = refl
value_order-is null (whole n) = refl
value_order-is null (text s) = refl
value_order-is null null = refl

total_parts : IsTotalOrder order_of_parts
total_parts = then_total (on_total (λ d. (parts d).0) nat_cmp_total) (then_total (on_total (λ d. (parts d).1.0) int_cmp_total) (on_total (λ d. (parts d).1.1) nat_list_cmp_total))

same_order : value_order ≡ order_of_parts
same_order = λ i a b. value_order-is a b i

pub value_total : IsTotalOrder value_order
value_total = subst (λ (order : Datum → Datum → Ordering). IsTotalOrder order) (sym same_order) total_parts

pub value_antisymmetric : IsAntisymmetric value_order
value_antisymmetric a b h =
    sym (datum_of_parts-parts a)
    ∙ ap datum_of_parts (exact_pairs nat_cmp (λ x y. ordering_then (int_cmp x.0 y.0) (slice_cmp nat_cmp x.1 y.1)) exact_unsigned
    (exact_pairs int_cmp (slice_cmp nat_cmp) exact_signed exact_bytes) (parts a) (parts b) (sym (value_order-is a b) ∙ h))
    ∙ datum_of_parts-parts b

pub key_total : IsTotalOrder key_order
key_total = lists_total value_total

pub key_antisymmetric : IsAntisymmetric key_order
key_antisymmetric = slice_cmp-IsAntisymmetric value_antisymmetric

-- two keys are the same exactly where they are equal
pub same_key-Decides : (k l : Key) → Decides (same_key k l) (k ≡ l)
same_key-Decides k l = (λ h. key_antisymmetric k l ((Equal-is (key_order k l)).0 h), λ e. (Equal-is (key_order k l)).1 (ap (key_order k) (sym e) ∙ tied_itself key_total k))

-- ---- equality in the code

abbrev pub value_eq : Value → Value → Bool
value_eq = eq-value.it

then_equal : (o : Ordering) → is_eq o ≡ is_eq (ordering_then o Equal)
then_equal Less = refl
then_equal Equal = refl
then_equal Greater = refl

pub value_eq-ties : (a b : Value) → value_eq a b ≡ eq_by_cmp value_order (datum_of a) (datum_of b)
value_eq-ties (v.Bool true) (v.Bool true) = refl
value_eq-ties (v.Bool true) (v.Bool false) = refl
value_eq-ties (v.Bool false) (v.Bool true) = refl
value_eq-ties (v.Bool false) (v.Bool false) = refl
value_eq-ties (v.Bool a) (v.Int n) = refl
value_eq-ties (v.Bool a) (v.Text s) = refl
value_eq-ties (v.Bool a) v.Null = refl
value_eq-ties (v.Int m) (v.Bool b) = refl
value_eq-ties (v.Int m) (v.Int n) = refl
value_eq-ties (v.Int m) (v.Text s) = refl
value_eq-ties (v.Int m) v.Null = refl
value_eq-ties (v.Text s) (v.Bool b) = refl
value_eq-ties (v.Text s) (v.Int n) = refl
value_eq-ties (v.Text s) (v.Text t) = texts_ties (string_bytes s) (string_bytes t)
value_eq-ties (v.Text s) v.Null = refl
value_eq-ties v.Null (v.Bool b) = refl
value_eq-ties v.Null (v.Int n) = refl
value_eq-ties v.Null (v.Text s) = refl
value_eq-ties v.Null v.Null = refl

-- two tests that pass together are the same
same-test : (a b : Bool) → (a ≡ true → b ≡ true) → (b ≡ true → a ≡ true) → a ≡ b
same-test true true f g = refl
same-test true false f g = sym (f refl)
same-test false true f g = g refl
same-test false false f g = refl

same-code : (x y : PackedKey) → key_in x ≡ key_in y → x.code.items ≡ y.code.items
same-code x y e = x.of_key.1.1 ∙ ap values_code e ∙ sym y.of_key.1.1

-- the code's keys are equal exactly where they are the same
pub key_eq-ties : (x y : PackedKey) → key_eq x y ≡ same_key (key_in x) (key_in y)
key_eq-ties x y =
    let bytes = bytes_decides x.code.items y.code.items in
    let keys = same_key-Decides (key_in x) (key_in y) in
    same-test (key_eq x y) (same_key (key_in x) (key_in y))
    (λ h. keys.1 (keys-one (key_in x) (key_in y) x.of_key.1.0 y.of_key.1.0 (sym x.of_key.1.1 ∙ bytes.0 h ∙ y.of_key.1.1)))
    (λ h. bytes.1 (same-code x y (keys.0 h)))
