-- Lists whose keys rise.
use Rattle.std.proofs.Common.{◌≡◌, false, get_or, ◌+◌, ◌<◌, ℕ, zero, suc, List, [], ◌∷◌, map, eqb, sym, ap, subst, ◌∙◌, arith}
use Rattle.std.specs.Ordering.{nat_cmp}
use Rattle.std.specs.declared.cmp.Ordering.TheVariants.{Less}
use Rattle.std.specs.List.{AllByRecursion, IsDistinct, slice_index}
use Rattle.std.specs.List.Sorted.{IsNonDecreasingBy, IsStrictlyIncreasing, IsStrictlySortedBy}
use Rattle.std.proofs.lemmas.List.{get_or-map, get_or_default, length-map}
use Rattle.std.proofs.lemmas.Bool.Decides.{Decides-eqb, nat_tests}
use Rattle.std.proofs.lemmas.Map.Keys.{IsStrictlyIncreasing-from_distinct, sorted_from_strictly_increasing, below_from_sorted}
use Rattle.group_tables.specs.Bags.{SameBag}
use Rattle.group_tables.proofs.Bags.{bag-map}
use Rattle.tables.proofs.Once.{distinct-same}

pub non_decreasing-map : {X Y : Type 0} (g : X → Y) (n : Y → ℕ) (xs : List X) → IsNonDecreasingBy (λ x. n (g x)) xs → IsNonDecreasingBy n (map g xs)
non_decreasing-map g n [] h i j d le lt = absurd (omega (arith, lt))
non_decreasing-map g n (x ∷ xs) h i j d le lt =
    let long = length-map (x ∷ xs) g in
    let a : n (get_or (map g (x ∷ xs)) i d) ≡ n (g (get_or (x ∷ xs) i x)) = ap n (get_or_default (map g (x ∷ xs)) i d (g x) (omega (arith, le, lt)) ∙ get_or-map g (x ∷ xs) i x (g x) (omega (arith, le, lt, long))) in
    let b : n (get_or (map g (x ∷ xs)) j d) ≡ n (g (get_or (x ∷ xs) j x)) = ap n (get_or_default (map g (x ∷ xs)) j d (g x) lt ∙ get_or-map g (x ∷ xs) j x (g x) (omega (arith, lt, long))) in
    omega (arith, a, b, h i j x le (omega (arith, lt, long)))

less : (a b : ℕ) → nat_cmp a b ≡ Less → a < b
unfolding IsStrictlySortedBy
less a b h = below_from_sorted (a ∷ b ∷ []) 0 1 0 ((h, tt), (tt, tt)) (omega arith) (omega arith)

module _ {X : Type 0} (n : X → ℕ) where
  abbrev pub Rises : List X → Type 0
  Rises [] = Unit {0}
  Rises (x ∷ xs) = AllByRecursion (λ y. n x < n y) xs × Rises xs

  rises-above : (x : X) (xs : List X) → AllByRecursion (λ m. nat_cmp (n x) m ≡ Less) (map n xs) → AllByRecursion (λ y. n x < n y) xs
  rises-above x [] h = tt
  rises-above x (y ∷ ys) h = (less (n x) (n y) h.0, rises-above x ys h.1)

  pub rises-from_sorted : (xs : List X) → IsStrictlySortedBy nat_cmp (map n xs) → Rises xs
  unfolding IsStrictlySortedBy
  rises-from_sorted [] h = tt
  rises-from_sorted (x ∷ xs) h = (rises-above x xs h.0, rises-from_sorted xs h.1)

  -- a list whose keys rise strictly
  pub strict-from_rises : (xs : List X) → Rises xs → IsStrictlyIncreasing (map n xs)
  strict-from_rises [] h k lt = absurd (omega (arith, lt))
  strict-from_rises (x ∷ []) h k lt = absurd (omega (arith, lt))
  strict-from_rises (x ∷ y ∷ ys) h zero lt = h.0.0
  strict-from_rises (x ∷ y ∷ ys) h (suc k) lt =
      let rest : slice_index (map n (y ∷ ys)) k < slice_index (map n (y ∷ ys)) (k + 1) = strict-from_rises (y ∷ ys) h.1 k (omega (arith, lt)) in
      let later : suc k + 1 ≡ suc (k + 1) = omega arith in
      subst (λ m. slice_index (map n (x ∷ y ∷ ys)) (suc k) < slice_index (map n (x ∷ y ∷ ys)) m) (sym later) rest

  apart-rest : (x : X) (xs : List X) → AllByRecursion (λ y. n x < n y) xs → AllByRecursion (λ b. eqb (n x) b ≡ false) (map n xs)
  apart-rest x [] h = tt
  apart-rest x (y ∷ ys) h = (let l = h.0 in grind (arith, nat_tests, l), apart-rest x ys h.1)

  pub distinct-from_rises : (xs : List X) → Rises xs → IsDistinct eqb (map n xs)
  unfolding IsDistinct
  distinct-from_rises [] h = tt
  distinct-from_rises (x ∷ xs) h = (apart-rest x xs h.0, distinct-from_rises xs h.1)

  -- a list whose keys do not fall rises where it has the things of one whose keys are different
  pub rises-ordered : (xs ys : List X) → IsDistinct eqb (map n xs) → SameBag xs ys → IsNonDecreasingBy n ys → Rises ys
  rises-ordered xs ys own bag up =
      let keys : SameBag (map n ys) (map n xs) = λ f. sym (bag-map n xs ys bag f) in
      let apart : IsDistinct eqb (map n ys) = distinct-same eqb Decides-eqb (map n ys) (map n xs) keys own in
      rises-from_sorted ys (sorted_from_strictly_increasing (map n ys) (IsStrictlyIncreasing-from_distinct (map n ys) (non_decreasing-map n (λ m. m) ys up) apart))

pub less-from : (a b : ℕ) → a < b → nat_cmp a b ≡ Less
unfolding IsStrictlySortedBy
less-from a b lt = (sorted_from_strictly_increasing (a ∷ b ∷ []) (strict-from_rises (λ m. m) (a ∷ b ∷ []) ((lt, tt), (tt, tt)))).0.0
