-- Lists in which each thing is before those behind it.
use Rattle.std.proofs.Common.{◌≡◌, ◌+◌, ℕ, suc, Bool, true, false, ◌||◌, ◌&&◌, cond, List, [], ◌∷◌, map, get_or, refl, sym, ap, subst, ◌∙◌, arith, IsSortedBy}
use Rattle.std.proofs.lemmas.Map.Lookups.{CmpEqualImpliesEq, btree_set_from_contains}
use Rattle.std.specs.declared.cmp.Ordering.{Ordering}
use Rattle.std.specs.declared.cmp.Ordering.TheVariants.{Less, Equal, Greater}
use Rattle.std.specs.BTreeSet.{BTreeSet}
use Rattle.std.specs.Cmp.{IsTotalOrder}
use Rattle.std.specs.FinMap.{is_sorted}
use Rattle.std.specs.FinMap.Entries.{below_all}
use Rattle.std.specs.List.{AllByRecursion, IsDistinct, list_any}
use Rattle.std.specs.List.Sorted.{IsStrictlySortedBy}
use Rattle.std.specs.Ordering.{eq_by_cmp, is_eq, is_gt, is_lt, ordering_reverse}
use lib.Dec.{T}
use Rattle.semantics.specs.Lists.{inserted_by, sorted_by}
use Rattle.group_tables.specs.Entries.{IsAscending}

-- ---- how two things stand to each other

turned_greater : (r s : Ordering) → r ≡ ordering_reverse s → is_gt s ≡ true → r ≡ Less
turned_greater r Less e h = absurd cc
turned_greater r Equal e h = absurd cc
turned_greater r Greater e h = e

no_other : (r : Ordering) → is_gt r ≡ false → is_eq r ≡ false → r ≡ Less
no_other Less g e = refl
no_other Equal g e = absurd cc
no_other Greater g e = absurd cc

not_behind : (r s : Ordering) → r ≡ ordering_reverse s → is_lt s ≡ false → is_gt r ≡ false
not_behind Less s e h = refl
not_behind Equal s e h = refl
not_behind Greater Less e h = absurd cc
not_behind Greater Equal e h = absurd cc
not_behind Greater Greater e h = absurd cc

-- ---- what holds of each thing

all-inserted : {X : Type 0} (order : X → X → Ordering) (P : X → Type 0) (x : X) (ys : List X) → P x → AllByRecursion P ys → AllByRecursion P (inserted_by order x ys)
all-inserted order P x [] h all = (h, tt)
all-inserted order P x (y ∷ ys) h all =
    elim (is_gt (order x y)) as (λ (b : Bool). AllByRecursion P (cond b (y ∷ inserted_by order x ys) (x ∷ y ∷ ys))) [
      | true ↦ (all.0, all-inserted order P x ys h all.1)
      | false ↦ (h, all)
    ]

all-in_order : {X : Type 0} (order : X → X → Ordering) (P : X → Type 0) (xs : List X) → AllByRecursion P xs → AllByRecursion P (sorted_by order xs)
all-in_order order P [] all = tt
all-in_order order P (x ∷ xs) all = all-inserted order P x (sorted_by order xs) all.0 (all-in_order order P xs all.1)

or_turned : (a b c : Bool) → (a || (b || c)) ≡ (b || (a || c))
or_turned true true c = refl
or_turned true false c = refl
or_turned false b c = refl

any-inserted : {X : Type 0} (order : X → X → Ordering) (p : X → Bool) (x : X) (ys : List X) → list_any p (inserted_by order x ys) ≡ (p x || list_any p ys)
any-inserted order p x [] = refl
any-inserted order p x (y ∷ ys) =
    elim (is_gt (order x y)) as (λ (b : Bool). list_any p (cond b (y ∷ inserted_by order x ys) (x ∷ y ∷ ys)) ≡ (p x || (p y || list_any p ys))) [
      | true ↦ ap (λ (b : Bool). p y || b) (any-inserted order p x ys) ∙ or_turned (p y) (p x) (list_any p ys)
      | false ↦ refl
    ]

-- a list in order has the same things
pub any-in_order : {X : Type 0} (order : X → X → Ordering) (p : X → Bool) (xs : List X) → list_any p (sorted_by order xs) ≡ list_any p xs
any-in_order order p [] = refl
any-in_order order p (x ∷ xs) = any-inserted order p x (sorted_by order xs) ∙ ap (λ (b : Bool). p x || b) (any-in_order order p xs)

-- ---- lists that ascend

module _ {X : Type 0} {order : X → X → Ordering} (o : IsTotalOrder order) where
  through : (x y : X) (zs : List X) → order x y ≡ Less → AllByRecursion (λ z. order y z ≡ Less) zs → AllByRecursion (λ z. order x z ≡ Less) zs
  through x y [] h all = tt
  through x y (z ∷ zs) h all = (o.trans x y z h all.0, through x y zs h all.1)

  -- where each thing is before the next one, it is before all behind it
  pub ascending-sorted : (xs : List X) → IsAscending order xs → IsStrictlySortedBy order xs
  unfolding IsStrictlySortedBy
  ascending-sorted [] a = tt
  ascending-sorted (x ∷ []) a = (tt, tt)
  ascending-sorted (x ∷ y ∷ ys) a =
      let rest = ascending-sorted (y ∷ ys) a.1 in
      ((a.0, through x y ys a.0 rest.0), rest)

  -- so it is in a list that is sorted by a key, where no two keys are the same
  pub keys-sorted : {Y : Type 0} (key : Y → X) (ys : List Y) → IsSortedBy (λ a b. is_lt (order (key a) (key b))) ys → IsDistinct (eq_by_cmp order) (map key ys) → IsStrictlySortedBy order (map key ys)
  unfolding IsStrictlySortedBy IsDistinct
  keys-sorted key [] h d = tt
  keys-sorted key (y ∷ []) h d = (tt, tt)
  keys-sorted {Y} key (y ∷ z ∷ zs) h d =
      let later : (k : ℕ) → suc k + 1 ≡ suc (k + 1) = λ k. omega arith in
      let tail : IsSortedBy (λ a b. is_lt (order (key a) (key b))) (z ∷ zs) = λ k d low high.
      subst (λ (n : ℕ). is_lt (order (key (get_or (y ∷ z ∷ zs) n d)) (key (get_or (z ∷ zs) k d))) ≡ false) (later k) (h (suc k) d (omega arith) (omega arith)) in
      let rest = keys-sorted key (z ∷ zs) tail d.1 in
      let first : order (key y) (key z) ≡ Less = no_other (order (key y) (key z))
      (not_behind (order (key y) (key z)) (order (key z) (key y)) (o.antisymm (key y) (key z)) (h 0 y (omega arith) (omega arith))) d.0.0 in
      ((first, through (key y) (key z) (map key zs) first rest.0), rest)

  sorted-inserted : (x : X) (ys : List X) → AllByRecursion (λ y. eq_by_cmp order x y ≡ false) ys → IsStrictlySortedBy order ys → IsStrictlySortedBy order (inserted_by order x ys)
  unfolding IsStrictlySortedBy
  sorted-inserted x [] apart s = (tt, tt)
  sorted-inserted x (y ∷ ys) apart s =
      elim (is_gt (order x y)) as (λ (b : Bool). is_gt (order x y) ≡ b → IsStrictlySortedBy order (cond b (y ∷ inserted_by order x ys) (x ∷ y ∷ ys))) [
        | true ↦ λ e. (all-inserted order (λ z. order y z ≡ Less) x ys (turned_greater (order y x) (order x y) (o.antisymm y x) e) s.0, sorted-inserted x ys apart.1 s.1)
        | false ↦ λ e. let less = no_other (order x y) e apart.0 in ((less, through x y ys less s.0), s)
      ] refl

  -- and in a list without repeats that is in order
  pub in_order-sorted : (xs : List X) → IsDistinct (eq_by_cmp order) xs → IsStrictlySortedBy order (sorted_by order xs)
  unfolding IsStrictlySortedBy IsDistinct
  in_order-sorted [] d = tt
  in_order-sorted (x ∷ xs) d = sorted-inserted x (sorted_by order xs) (all-in_order order (λ y. eq_by_cmp order x y ≡ false) xs d.0) (in_order-sorted xs d.1)

  -- two such lists with the same things are one, where no two things tie
  pub one-sorted : CmpEqualImpliesEq order → (xs ys : List X) → IsStrictlySortedBy order xs → IsStrictlySortedBy order ys
      → ((q : X) → list_any (eq_by_cmp order q) xs ≡ list_any (eq_by_cmp order q) ys) → xs ≡ ys
  one-sorted same xs ys s t h =
      let left : BTreeSet X = record { keys = xs } in
      let right : BTreeSet X = record { keys = ys } in
      btree_set_from_contains o left right s t h same

-- ---- the entries of a map

both : (a b : Bool) → T a → T b → T (a && b)
both true b p q = q
both false b p q = p

below-sorted : {K X : Type 0} (R : K → K → Ordering) (k : K) (es : List (K × X)) → AllByRecursion (λ y. R k y ≡ Less) (map (λ e. e.0) es) → T (below_all R k es)
below-sorted R k [] all = tt
below-sorted R k (e ∷ es) all = both (is_lt (R k e.0)) (below_all R k es) (subst (λ (r : Ordering). T (is_lt r)) (sym all.0) tt) (below-sorted R k es all.1)

-- entries whose keys are sorted are those of a map
pub map-sorted : {K X : Type 0} (R : K → K → Ordering) (es : List (K × X)) → IsStrictlySortedBy R (map (λ e. e.0) es) → T (is_sorted R es)
unfolding IsStrictlySortedBy
map-sorted R [] s = tt
map-sorted R (e ∷ es) s = both (below_all R e.0 es) (is_sorted R es) (below-sorted R e.0 es s.0) (map-sorted R es s.1)
