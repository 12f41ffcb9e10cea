-- Lists in order, under any total order.
use Rattle.std.proofs.Common.{◌≡◌, ◌+◌, ◌<◌, ℕ, suc, Bool, true, false, cond, List, [], ◌∷◌, map, get_or, refl, sym, ap, subst, ◌∙◌, sum_by, arith, IsSortedBy, true≢false}
use Rattle.std.proofs.lemmas.List.Sums.{sum_by-cons}
use Rattle.std.specs.Prelude.{⊤}
use Rattle.std.specs.declared.cmp.Ordering.{Ordering}
use Rattle.std.specs.declared.cmp.Ordering.TheVariants.{Less, Equal, Greater}
use Rattle.std.specs.Ordering.{is_eq, is_gt, is_lt, ordering_reverse}
use Rattle.std.specs.Cmp.{IsTotalOrder, Equal-is, upto, eq_by_cmp_equiv, tied_itself}
use Rattle.std.specs.FinMap.{IsAntisymmetric}
use Rattle.std.specs.List.{AllByRecursion}
use Rattle.group_tables.specs.Bags.{SameBag}
use Rattle.group_tables.proofs.Bags.{bag-heads, bag-rests, length-bag}
use Rattle.group_tables.specs.Ascending.{NoneBefore, Ascends}
use Rattle.semantics.specs.Lists.{inserted_by, sorted_by}

-- ---- sums

sum_by-inserted : {X : Type 0} (order : X → X → Ordering) (f : X → ℕ) (x : X) (ys : List X) → sum_by f (inserted_by order x ys) ≡ f x + sum_by f ys
sum_by-inserted order f x [] = sum_by-cons f x []
sum_by-inserted order f x (y ∷ ys) =
    elim (is_gt (order x y)) as (λ (b : Bool). sum_by f (cond b (y ∷ inserted_by order x ys) (x ∷ y ∷ ys)) ≡ f x + sum_by f (y ∷ ys)) [
      | true ↦ omega (arith, sum_by-cons f y (inserted_by order x ys), sum_by-inserted order f x ys, sum_by-cons f y ys)
      | false ↦ sum_by-cons f x (y ∷ ys)
    ]

-- a list in order has the same things
pub sum_by-in_order : {X : Type 0} (order : X → X → Ordering) (f : X → ℕ) (xs : List X) → sum_by f (sorted_by order xs) ≡ sum_by f xs
sum_by-in_order order f [] = refl
sum_by-in_order order f (x ∷ xs) = sum_by-inserted order f x (sorted_by order xs) ∙ ap (λ (n : ℕ). f x + n) (sum_by-in_order order f xs) ∙ sym (sum_by-cons f x xs)

-- ---- what holds of each thing

-- what holds of each thing of a list and of one more holds of each with that one inserted
all-inserted : {X : Type 0} (order : X → X → Ordering) (P : X → Type 0) (x : X) (ys : List X) → P x → AllByRecursion P ys → AllByRecursion P (inserted_by order x ys)
all-inserted order P x [] h all = (h, tt)
all-inserted order P x (y ∷ ys) h all =
    elim (is_gt (order x y)) as (λ (b : Bool). AllByRecursion P (cond b (y ∷ inserted_by order x ys) (x ∷ y ∷ ys))) [
      | true ↦ (all.0, all-inserted order P x ys h all.1)
      | false ↦ (h, all)
    ]

pub all-in_order : {X : Type 0} (order : X → X → Ordering) (P : X → Type 0) (xs : List X) → AllByRecursion P xs → AllByRecursion P (sorted_by order xs)
all-in_order order P [] all = tt
all-in_order order P (x ∷ xs) all = all-inserted order P x (sorted_by order xs) all.0 (all-in_order order P xs all.1)

-- ---- ascending lists

turned_greater : (r s : Ordering) → r ≡ ordering_reverse s → is_gt s ≡ true → is_gt r ≡ false
turned_greater Less s e h = refl
turned_greater Equal s e h = refl
turned_greater Greater Less e h = absurd cc
turned_greater Greater Equal e h = absurd cc
turned_greater Greater Greater e h = absurd cc

turned_less : (r s : Ordering) → r ≡ ordering_reverse s → is_lt s ≡ false → is_gt r ≡ false
turned_less Less s e h = refl
turned_less Equal s e h = refl
turned_less Greater Less e h = absurd cc
turned_less Greater Equal e h = absurd cc
turned_less Greater Greater e h = absurd cc

level : (r s : Ordering) → r ≡ ordering_reverse s → is_gt r ≡ false → is_gt s ≡ false → r ≡ Equal
level Less Less e p q = absurd cc
level Less Equal e p q = absurd cc
level Less Greater e p q = absurd cc
level Equal s e p q = refl
level Greater s e p q = absurd cc

module _ {X : Type 0} {order : X → X → Ordering} (o : IsTotalOrder order) where
  none-through : (x y : X) (ys : List X) → is_gt (order x y) ≡ false → NoneBefore order y ys → NoneBefore order x ys
  none-through x y [] h n = tt
  none-through x y (z ∷ zs) h n = (upto o x y z h n.0, none-through x y zs h n.1)

  ascends-inserted : (x : X) (ys : List X) → Ascends order ys → Ascends order (inserted_by order x ys)
  ascends-inserted x [] a = (tt, tt)
  ascends-inserted x (y ∷ ys) a =
      elim (is_gt (order x y)) as (λ (b : Bool). is_gt (order x y) ≡ b → Ascends order (cond b (y ∷ inserted_by order x ys) (x ∷ y ∷ ys))) [
        | true ↦ λ e. (all-inserted order (λ z. is_gt (order y z) ≡ false) x ys (turned_greater (order y x) (order x y) (o.antisymm y x) e) a.0, ascends-inserted x ys a.1)
        | false ↦ λ e. ((e, none-through x y ys e a.0), a)
      ] refl

  -- a list in order ascends
  pub ascends-in_order : (xs : List X) → Ascends order (sorted_by order xs)
  ascends-in_order [] = tt
  ascends-in_order (x ∷ xs) = ascends-inserted x (sorted_by order xs) (ascends-in_order xs)

  -- so does a list that is sorted by a key
  pub ascends-sorted : {Y : Type 0} (key : Y → X) (ys : List Y) → IsSortedBy (λ a b. is_lt (order (key a) (key b))) ys → Ascends order (map key ys)
  ascends-sorted key [] h = tt
  ascends-sorted key (y ∷ []) h = (tt, tt)
  ascends-sorted {Y} key (y ∷ z ∷ zs) h =
      let later : (k : ℕ) → suc k + 1 ≡ suc (k + 1) = λ k. omega arith in
      let tail : IsSortedBy (λ a b. is_lt (order (key a) (key b))) (z ∷ zs) = λ k d low high.
      subst (λ (n : ℕ). is_lt (order (key (get_or (y ∷ z ∷ zs) n d)) (key (get_or (z ∷ zs) k d))) ≡ false) (later k) (h (suc k) d (omega arith) (omega arith)) in
      let rest : Ascends order (map key (z ∷ zs)) = ascends-sorted key (z ∷ zs) tail in
      let first : is_gt (order (key y) (key z)) ≡ false = turned_less (order (key y) (key z)) (order (key z) (key y)) (o.antisymm (key y) (key z)) (h 0 y (omega arith) (omega arith)) in
      ((first, none-through (key y) (key z) (map key zs) first rest.0), rest)

-- ---- one list

-- no two things of the list tie
abbrev pub Apart : {X : Type 0} → (X → X → Ordering) → List X → Type 0
Apart order [] = ⊤
Apart order (x ∷ xs) = AllByRecursion (λ y. is_eq (order x y) ≡ false) xs × Apart order xs

module _ {X : Type 0} {order : X → X → Ordering} (o : IsTotalOrder order) where
  untied-back : (x y : X) → is_eq (order x y) ≡ false → is_eq (order y x) ≡ false
  untied-back x y h = (eq_by_cmp_equiv o).symm y x ∙ h

  apart-inserted : (x : X) (ys : List X) → AllByRecursion (λ y. is_eq (order x y) ≡ false) ys → Apart order ys → Apart order (inserted_by order x ys)
  apart-inserted x [] all a = (tt, tt)
  apart-inserted x (y ∷ ys) all a =
      elim (is_gt (order x y)) as (λ (b : Bool). Apart order (cond b (y ∷ inserted_by order x ys) (x ∷ y ∷ ys))) [
        | true ↦ (all-inserted order (λ z. is_eq (order y z) ≡ false) x ys (untied-back x y all.0) a.0, apart-inserted x ys all.1 a.1)
        | false ↦ (all, a)
      ]

  -- nor do they once the list is in order
  pub apart-in_order : (xs : List X) → Apart order xs → Apart order (sorted_by order xs)
  apart-in_order [] a = tt
  apart-in_order (x ∷ xs) a = apart-inserted x (sorted_by order xs) (all-in_order order (λ y. is_eq (order x y) ≡ false) xs a.0) (apart-in_order xs a.1)

-- a test of equality
pub record Tells {X : Type 0} (same : X → X → Bool) : Type 0 where
  pub equal : (x y : X) → same x y ≡ true → x ≡ y
  pub itself : (x : X) → same x x ≡ true

abbrev weight : Bool → ℕ
weight b = cond b 1 0

-- what holds of each thing of the list holds of one that stands there
stands : {X : Type 0} (same : X → X → Bool) → Tells same → (P : X → Type 0) (x : X) (ys : List X) → AllByRecursion P ys → 0 < sum_by (λ y. cond (same x y) 1 0) ys → P x
stands same t P x [] all h = absurd (omega arith)
stands {X} same t P x (y ∷ ys) all h =
    elim (same x y) as (λ (b : Bool). same x y ≡ b → 0 < cond b 1 0 + sum_by (λ (z : X). cond (same x z) 1 0) ys → P x) [
      | true ↦ λ e _. subst P (sym (t.equal x y e)) all.0
      | false ↦ λ _ k. let rest : 0 < sum_by (λ (z : X). cond (same x z) 1 0) ys = omega (arith, k) in stands same t P x ys all.1 rest
    ] refl (omega (arith, h, sum_by-cons (λ (z : X). cond (same x z) 1 0) y ys))

module _ {X : Type 0} {order : X → X → Ordering} (o : IsTotalOrder order) (same : X → X → Bool) (t : Tells same) where
  -- of two ascending lists that have the same things each as often the first things are one, if
  -- they are where they tie
  first-by : (x y : X) (xs ys : List X) → (order x y ≡ Equal → 0 < sum_by (λ z. cond (same y z) 1 0) xs → x ≡ y)
      → Ascends order (x ∷ xs) → Ascends order (y ∷ ys) → SameBag (x ∷ xs) (y ∷ ys) → x ≡ y
  first-by x y xs ys tied a b h =
      elim (same x y) as (λ (e : Bool). same x y ≡ e → x ≡ y) [
        | true ↦ λ e. t.equal x y e
        | false ↦ λ e.
            elim (same y x) as (λ (f : Bool). same y x ≡ f → x ≡ y) [
              | true ↦ λ f. sym (t.equal y x f)
              | false ↦ λ f.
                  let up : cond (same x x) 1 0 + sum_by (λ (z : X). cond (same x z) 1 0) xs ≡ cond (same x y) 1 0 + sum_by (λ (z : X). cond (same x z) 1 0) ys = bag-heads x y xs ys h (λ z. cond (same x z) 1 0) in
                  let down : cond (same y x) 1 0 + sum_by (λ (z : X). cond (same y z) 1 0) xs ≡ cond (same y y) 1 0 + sum_by (λ (z : X). cond (same y z) 1 0) ys = bag-heads x y xs ys h (λ z. cond (same y z) 1 0) in
                  let e1 = ap weight (t.itself x) in
                  let e2 = ap weight e in
                  let e3 = ap weight f in
                  let e4 = ap weight (t.itself y) in
                  let in_rest : 0 < sum_by (λ (z : X). cond (same y z) 1 0) xs = omega (arith, down, e3, e4) in
                  let above : is_gt (order y x) ≡ false = stands same t (λ z. is_gt (order y z) ≡ false) x ys b.0 (omega (arith, up, e1, e2)) in
                  let below : is_gt (order x y) ≡ false = stands same t (λ z. is_gt (order x z) ≡ false) y xs a.0 in_rest in
                  tied (level (order x y) (order y x) (o.antisymm x y) below above) in_rest
            ] refl
      ] refl

  first-same : (x y : X) (xs ys : List X) → Apart order (x ∷ xs) → Ascends order (x ∷ xs) → Ascends order (y ∷ ys) → SameBag (x ∷ xs) (y ∷ ys) → x ≡ y
  first-same x y xs ys apart a b h =
      first-by x y xs ys
      (λ e k. absurd (true≢false (sym ((Equal-is (order x y)).1 e) ∙ stands same t (λ z. is_eq (order x z) ≡ false) y xs apart.0 k))) a b h

  -- of two ascending lists that have the same things each as often, where no two tie, each is the
  -- other
  pub one-list : (xs ys : List X) → Apart order xs → Ascends order xs → Ascends order ys → SameBag xs ys → xs ≡ ys
  one-list [] [] apart a b h = refl
  one-list [] (y ∷ ys) apart a b h = absurd (omega (arith, length-bag [] (y ∷ ys) h))
  one-list (x ∷ xs) [] apart a b h = absurd (omega (arith, length-bag (x ∷ xs) [] h))
  one-list (x ∷ xs) (y ∷ ys) apart a b h =
      let first = first-same x y xs ys apart a b h in
      ap (λ (z : X). z ∷ xs) first ∙ ap (λ (zs : List X). y ∷ zs) (one-list xs ys apart.1 a.1 b.1 (bag-rests x y xs ys first h))

-- ---- where only equal things tie

module _ {X : Type 0} {order : X → X → Ordering} (o : IsTotalOrder order) (tied : IsAntisymmetric order) where
  abbrev ties : X → X → Bool
  ties x y = is_eq (order x y)

  ties-Tells : Tells ties
  ties-Tells = record {
    equal = λ x y h. tied x y ((Equal-is (order x y)).0 h);
    itself = λ x. (Equal-is (order x x)).1 (tied_itself o x);
  }

  -- of two ascending lists that have the same things each as often each is the other
  pub one-ascending : (xs ys : List X) → Ascends order xs → Ascends order ys → SameBag xs ys → xs ≡ ys
  one-ascending [] [] a b h = refl
  one-ascending [] (y ∷ ys) a b h = absurd (omega (arith, length-bag [] (y ∷ ys) h))
  one-ascending (x ∷ xs) [] a b h = absurd (omega (arith, length-bag (x ∷ xs) [] h))
  one-ascending (x ∷ xs) (y ∷ ys) a b h =
      let first = first-by o ties ties-Tells x y xs ys (λ e _. tied x y e) a b h in
      ap (λ (z : X). z ∷ xs) first ∙ ap (λ (zs : List X). y ∷ zs) (one-ascending xs ys a.1 b.1 (bag-rests x y xs ys first h))

  -- put in order, two lists that have the same things each as often are one
  pub in_order-same : (xs ys : List X) → SameBag xs ys → sorted_by order xs ≡ sorted_by order ys
  in_order-same xs ys h =
      one-ascending (sorted_by order xs) (sorted_by order ys) (ascends-in_order o xs) (ascends-in_order o ys)
      (λ f. sum_by-in_order order f xs ∙ h f ∙ sym (sum_by-in_order order f ys))
