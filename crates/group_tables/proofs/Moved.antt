-- Things that a sort has moved, by what stands beside them.
use Rattle.std.proofs.Common.{◌≡◌, ◌++◌, ℕ, false, List, [], ◌∷◌, append_assoc, map, length, get_or, set, refl, sym, ap, subst, ◌∙◌, arith, IsPermutation, IsSortedBy}
use Rattle.std.proofs.Math.ListN.{get_or-map}
use Rattle.std.proofs.lemmas.List.{length-map, map-append, map-set}
use Rattle.std.proofs.lemmas.List.Sorted.{IsPermutation-keeps, IsPermutation-map, IsPermutation-refl, IsPermutation-swap, IsPermutation-trans}
use Rattle.std.proofs.lemmas.Simd.{map-map}
use Rattle.std.specs.declared.cmp.Ordering.{Ordering}
use Rattle.std.specs.declared.cmp.Ordering.TheVariants.{Less}
use Rattle.std.specs.List.{AllByRecursion, IsDistinct, swap}
use Rattle.std.specs.List.Sorted.{IsStrictlySortedBy}
use Rattle.std.specs.Ordering.{eq_by_cmp, is_eq}
use Rattle.sort_keys.specs.SortKeys.{SortParts, key_parts, parts_order}
use Rattle.sort_keys.proofs.Totals.{parts-total}
use Rattle.group_tables.specs.declared.key_order.Keyed.{Keyed}
use Rattle.group_tables.specs.Inside.Keyed.{is_before}
use Rattle.group_tables.proofs.Ascending.{keys-sorted}

map-swap : {A B : Type 0} (f : A → B) (xs : List A) (i j : ℕ) → map f (swap xs i j) ≡ swap (map f xs) i j
map-swap f [] i j = refl
map-swap f (d ∷ ys) i j =
    let xs = d ∷ ys in
    map-set f (set xs i (get_or xs j d)) j (get_or xs i d)
    ∙ ap (λ l. set l j (f (get_or xs i d))) (map-set f xs i (get_or xs j d))
    ∙ ap (λ b. set (set (map f xs) i b) j (f (get_or xs i d))) (sym (get_or-map f xs j d))
    ∙ ap (λ b. set (set (map f xs) i (get_or (map f xs) j (f d))) j b) (sym (get_or-map f xs i d))

-- what images of things are moved to are the images of the things, moved
pub moved : {A B : Type 0} (f : A → B) (xs : List A) (zs : List B) → IsPermutation (map f xs) zs → (ys : List A) × IsPermutation xs ys × (zs ≡ map f ys)
moved {A} f xs zs p =
    IsPermutation-keeps (map f xs) (λ l. (ys : List A) × IsPermutation xs ys × (l ≡ map f ys)) (xs, IsPermutation-refl xs, refl)
    (λ l i j hi hj (ys, q, e).
    let long : length l ≡ length ys = ap length e ∙ length-map ys f in (
      swap ys i j,
      IsPermutation-trans xs ys (swap ys i j) q (IsPermutation-swap ys (swap ys i j) i j (omega (arith, hi, long)) (omega (arith, hj, long)) refl),
      ap (λ m. swap m i j) e ∙ sym (map-swap f ys i j),
    ))
    zs p

-- ---- things beside sort keys

abbrev pub key_beside : {T : Type 0} → Keyed T → SortParts
key_beside k = key_parts k.key

-- Things that are moved show what they showed, moved: beside each stands the sort key of what it
-- shows.
pub record AreMoved {T A B : Type 0} (view : T → B) (code : A → SortParts) (show : A → B) (xs : List A) (zs : List (Keyed T)) : Type 0 where
  pub shown : List A
  pub permutation : IsPermutation xs shown
  pub codes : map key_beside zs ≡ map code shown
  pub things : map (λ k. view k.thing) zs ≡ map show shown

pub moved-beside : {T A B : Type 0} (view : T → B) (code : A → SortParts) (show : A → B) (xs : List A) (ks zs : List (Keyed T))
    → map {B = SortParts × B} (λ k. (key_beside k, view k.thing)) ks ≡ map {B = SortParts × B} (λ a. (code a, show a)) xs → IsPermutation ks zs → AreMoved view code show xs zs
moved-beside {T} {A} {B} view code show xs ks zs are p =
    let form : Keyed T → SortParts × B = λ k. (key_beside k, view k.thing) in
    let at : A → SortParts × B = λ a. (code a, show a) in
    let back = moved at xs (map form zs) (subst (λ (l : List (SortParts × B)). IsPermutation l (map form zs)) are (IsPermutation-map form ks zs p)) in
    record {
      shown = back.0;
      permutation = back.1;
      codes = sym (map-map (λ (x : SortParts × B). x.0) form zs) ∙ ap (map (λ (x : SortParts × B). x.0)) back.2 ∙ map-map (λ (x : SortParts × B). x.0) at back.0;
      things = sym (map-map (λ (x : SortParts × B). x.1) form zs) ∙ ap (map (λ (x : SortParts × B). x.1)) back.2 ∙ map-map (λ (x : SortParts × B). x.1) at back.0;
    }

-- ---- things whose sort keys stand to each other as they do

module _ {A K : Type 0} (order : K → K → Ordering) (key : A → K) (code : A → SortParts) (P : A → Type 0) (told : (a b : A) → P a → P b → parts_order (code a) (code b) ≡ order (key a) (key b)) where
  codes-apart : (x : A) (ys : List A) → P x → AllByRecursion P ys → AllByRecursion (λ k. eq_by_cmp order (key x) k ≡ false) (map key ys) → AllByRecursion (λ c. eq_by_cmp parts_order (code x) c ≡ false) (map code ys)
  codes-apart x [] p all h = tt
  codes-apart x (y ∷ ys) p all h = (ap is_eq (told x y p all.0) ∙ h.0, codes-apart x ys p all.1 h.1)

  distinct-codes : (xs : List A) → AllByRecursion P xs → IsDistinct (eq_by_cmp order) (map key xs) → IsDistinct (eq_by_cmp parts_order) (map code xs)
  unfolding IsDistinct
  distinct-codes [] all d = tt
  distinct-codes (x ∷ xs) all d = (codes-apart x xs all.0 all.1 d.0, distinct-codes xs all.1 d.1)

  keys-below : (x : A) (ys : List A) → P x → AllByRecursion P ys → AllByRecursion (λ c. parts_order (code x) c ≡ Less) (map code ys) → AllByRecursion (λ k. order (key x) k ≡ Less) (map key ys)
  keys-below x [] p all h = tt
  keys-below x (y ∷ ys) p all h = (sym (told x y p all.0) ∙ h.0, keys-below x ys p all.1 h.1)

  keys-in_order : (xs : List A) → AllByRecursion P xs → IsStrictlySortedBy parts_order (map code xs) → IsStrictlySortedBy order (map key xs)
  unfolding IsStrictlySortedBy
  keys-in_order [] all s = tt
  keys-in_order (x ∷ xs) all s = (keys-below x xs all.0 all.1 s.0, keys-in_order xs all.1 s.1)

  -- they ascend where what is sorted by these sort keys shows them, and no two of them are the same
  pub ascend-beside : {T : Type 0} (zs : List (Keyed T)) (xs : List A) → map key_beside zs ≡ map code xs → AllByRecursion P xs → IsDistinct (eq_by_cmp order) (map key xs) → IsSortedBy is_before zs
      → IsStrictlySortedBy order (map key xs)
  ascend-beside zs xs codes all d up =
      keys-in_order xs all
      (subst (λ (ps : List SortParts). IsStrictlySortedBy parts_order ps) codes
      (keys-sorted parts-total key_beside zs up (subst (λ (ps : List SortParts). IsDistinct (eq_by_cmp parts_order) ps) (sym codes) (distinct-codes xs all d))))

pub all-of : {A : Type 0} (P : A → Type 0) → ((a : A) → P a) → (xs : List A) → AllByRecursion P xs
all-of P h [] = tt
all-of P h (x ∷ xs) = (h x, all-of P h xs)

-- ---- loops over things

-- one thing more, and the others that are left
pub one-more : {A B C : Type 0} (f : A → C) (g : B → C) (xs : List A) (x : A) (y : B) (ys : List B) → f x ≡ g y → map f (xs ++ x ∷ []) ++ map g ys ≡ map f xs ++ map g (y ∷ ys)
one-more {A} {B} {C} f g xs x y ys h =
    ap (λ (zs : List C). zs ++ map g ys) (map-append f xs (x ∷ []))
    ∙ append_assoc (map f xs) (f x ∷ []) (map g ys)
    ∙ ap (λ (z : C). map f xs ++ z ∷ map g ys) h
