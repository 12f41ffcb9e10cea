-- The pieces of a list, in whatever order they stand.
use Rattle.std.proofs.Common.{◌≡◌, ◌≢◌, ℕ, zero, suc, ◌+◌, ◌<◌, ◌≤◌, true, ◌==◌, if◌then◌else◌, List, [], ◌∷◌, ◌++◌, sym, refl, ap, ◌∙◌, subst, ⊎_elim, sum_by, arith, eq-eqb, ne_eqb}
use Rattle.std.proofs.lemmas.Bool.{cases_eq}
use Rattle.std.proofs.lemmas.List.Sums.{sum_by-append, sum_by-cons}
use Rattle.pool.specs.Reduction.{Reduction, reduction_below}
use Rattle.pool.specs.Lawful.{Lawful}
use Rattle.pool.specs.Dealing.{times}
use Rattle.pool.specs.Totals.{sum_below, once_below}
use Rattle.pool.specs.Combination.{reduction_from}
use Rattle.pool.proofs.Machine.{times-append}

same : (x : ℕ) → (x == x) ≡ true
same x = eq-eqb x x refl

abbrev pub one_if : ℕ → ℕ → ℕ
one_if x y = if x == y then 1 else 0

one_if_same : (x : ℕ) → one_if x x ≡ 1
one_if_same x = rw (same x) refl

none_if_other : (x y : ℕ) → x ≢ y → one_if x y ≡ 0
none_if_other x y n = rw (ne_eqb x y n) refl

once_below-none : (x n : ℕ) → n ≤ x → once_below x n ≡ 0
once_below-none x zero h = refl
once_below-none x (suc k) h = let e = none_if_other k x (λ (i : k ≡ x). omega arith) in omega (arith, e, once_below-none x k (omega arith))

-- where x stands in a list
pub split_at : (x : ℕ) (xs : List ℕ) → 0 < times x xs → (ys : List ℕ) × (zs : List ℕ) × (xs ≡ ys ++ x ∷ zs)
split_at x [] h = absurd (omega arith)
split_at x (y ∷ ys) h =
    ⊎_elim (λ (e : y ≡ x). ([], ys, ap (λ z. z ∷ ys) e)) (λ (n : y ≢ x). let o = none_if_other y x n in let r = split_at x ys (omega arith) in (y ∷ r.0, r.1, ap (λ zs. y ∷ zs) r.2)) (cases_eq y x)

pub times-middle : (z x : ℕ) (ys zs : List ℕ) → times z (ys ++ x ∷ zs) ≡ one_if x z + times z (ys ++ zs)
times-middle z x ys zs = omega (arith, times-append z ys (x ∷ zs), times-append z ys zs)

pub sum_by-middle : (f : ℕ → ℕ) (x : ℕ) (ys zs : List ℕ) → sum_by f (ys ++ x ∷ zs) ≡ f x + sum_by f (ys ++ zs)
sum_by-middle f x ys zs = omega (arith, sum_by-append f ys (x ∷ zs), sum_by-cons f x zs, sum_by-append f ys zs)

-- where none stands more than once and each is below n, the list comes to at most the whole
pub sum_by-within : (f : ℕ → ℕ) (n : ℕ) (xs : List ℕ) → ((x : ℕ) → times x xs ≤ once_below x n) → sum_by f xs ≤ sum_below f n
sum_by-within f zero [] h = omega arith
sum_by-within f zero (x ∷ xs) h = let a = h x in let e = one_if_same x in absurd (omega arith)
sum_by-within f (suc k) xs h =
    ⊎_elim (λ (e : times k xs ≡ 0).
    let i = sum_by-within f k xs (λ x. ⊎_elim (λ (s : k ≡ x). subst (λ y. times y xs ≤ once_below y k) s (omega arith)) (λ (d : k ≢ x). let a = h x in let o = none_if_other k x d in omega arith) (cases_eq k x)) in
    omega arith)
    (λ (n : times k xs ≢ 0). let r = split_at k xs (omega arith) in
    let i = sum_by-within f k (r.0 ++ r.1) (λ x. let a = h x in let t = ap (times x) r.2 ∙ times-middle x k r.0 r.1 in omega arith) in
    let t = ap (sum_by f) r.2 ∙ sum_by-middle f k r.0 r.1 in
    omega arith)
    (cases_eq (times k xs) 0)

module _ {M : Type 0} {reduction : Reduction M} (laws : Lawful reduction) where
  -- pieces that go onto a part that was made before
  module _ (b : M) (its : reduction.fits b) where
    pub onto_fits : (xs : List ℕ) → reduction.fits (reduction_from reduction b xs)
    onto_fits [] = its
    onto_fits (x ∷ xs) = laws.combined_fits _ _ (laws.piece_fits x) (onto_fits xs)

    pub onto_load : (xs : List ℕ) → reduction.load (reduction_from reduction b xs) ≡ reduction.load b + sum_by (λ i. reduction.load (reduction.piece i)) xs
    onto_load [] = omega arith
    onto_load (x ∷ xs) = let a = laws.load_adds _ _ (laws.piece_fits x) (onto_fits xs) in omega (arith, a, onto_load xs, sum_by-cons (λ i. reduction.load (reduction.piece i)) x xs)

    pub onto_weight : (xs : List ℕ) → reduction.weight (reduction_from reduction b xs) ≡ reduction.weight b + sum_by (λ i. reduction.weight (reduction.piece i)) xs
    onto_weight [] = omega arith
    onto_weight (x ∷ xs) = let a = laws.weight_adds _ _ (laws.piece_fits x) (onto_fits xs) in omega (arith, a, onto_weight xs, sum_by-cons (λ i. reduction.weight (reduction.piece i)) x xs)

    pub onto-middle : (x : ℕ) (ys zs : List ℕ) → reduction_from reduction b (ys ++ x ∷ zs) ≡ reduction.combine (reduction_from reduction b (ys ++ zs)) (reduction.piece x)
    onto-middle x [] zs = laws.commutative _ _ (laws.piece_fits x) (onto_fits zs)
    onto-middle x (y ∷ ys) zs = ap (reduction.combine (reduction.piece y)) (onto-middle x ys zs) ∙ sym (laws.associative _ _ _ (laws.piece_fits y) (onto_fits (ys ++ zs)) (laws.piece_fits x))

  pub gathered_fits : (xs : List ℕ) → reduction.fits (reduction_from reduction reduction.unit xs)
  gathered_fits xs = onto_fits reduction.unit laws.unit_fits xs

  pub unit_after : (a : M) → reduction.fits a → reduction.combine a reduction.unit ≡ a
  unit_after a its = laws.commutative _ _ its laws.unit_fits ∙ laws.unit_combined _ its

  -- what there was to begin with may be combined last
  pub onto_apart : (b : M) → reduction.fits b → (xs : List ℕ) → reduction_from reduction b xs ≡ reduction.combine b (reduction_from reduction reduction.unit xs)
  onto_apart b its [] = sym (unit_after b its)
  onto_apart b its (x ∷ xs) =
      let p = laws.piece_fits x in
      let r = gathered_fits xs in
      ap (reduction.combine (reduction.piece x)) (onto_apart b its xs) ∙ sym (laws.associative _ _ _ p its r) ∙ ap (λ m. reduction.combine m (reduction_from reduction reduction.unit xs)) (laws.commutative _ _ p its) ∙ laws.associative _ _ _ its p r

  -- each number below n once, and no other
  pub gathered_whole : (n : ℕ) (xs : List ℕ) → ((x : ℕ) → times x xs ≡ once_below x n) → reduction_from reduction reduction.unit xs ≡ reduction_below reduction n
  gathered_whole zero [] h = refl
  gathered_whole zero (x ∷ xs) h = let a = h x in let e = one_if_same x in absurd (omega arith)
  gathered_whole (suc k) xs h =
      let a = h k in
      let e = one_if_same k in
      let r = split_at k xs (omega arith) in
      let i = gathered_whole k (r.0 ++ r.1) (λ x. let b = h x in let t = ap (times x) r.2 ∙ times-middle x k r.0 r.1 in omega arith) in
      ap (reduction_from reduction reduction.unit) r.2 ∙ onto-middle reduction.unit laws.unit_fits k r.0 r.1 ∙ ap (λ m. reduction.combine m (reduction.piece k)) i

  pub onto_whole : (b : M) → reduction.fits b → (n : ℕ) (xs : List ℕ) → ((x : ℕ) → times x xs ≡ once_below x n) → reduction_from reduction b xs ≡ reduction.combine b (reduction_below reduction n)
  onto_whole b its n xs h = onto_apart b its xs ∙ ap (reduction.combine b) (gathered_whole n xs h)

  -- the next list goes onto what was gathered so far
  pub onto-append : (b : M) → reduction.fits b → (xs ys : List ℕ) → reduction_from reduction b (xs ++ ys) ≡ reduction.combine (reduction_from reduction b xs) (reduction_from reduction reduction.unit ys)
  onto-append b its [] ys = onto_apart b its ys
  onto-append b its (x ∷ xs) ys = ap (reduction.combine (reduction.piece x)) (onto-append b its xs ys) ∙ sym (laws.associative _ _ _ (laws.piece_fits x) (onto_fits b its xs) (gathered_fits ys))

  -- a part m still lacks what b stands for; with a part that b was begun with and the list l, it
  -- lacks nothing
  pub onto_next : (first : M) → reduction.fits first → (m b p : M) → reduction.fits m → reduction.fits b → (done l : List ℕ) → reduction.combine m b ≡ reduction_from reduction first done → p ≡ reduction_from reduction b l → reduction.combine (reduction.combine m p) reduction.unit ≡ reduction_from reduction first (done ++ l)
  onto_next first its m b p fm fb done l so_far is =
      let r = gathered_fits l in
      unit_after _ (laws.combined_fits _ _ fm (subst reduction.fits (sym is) (onto_fits b fb l)))
      ∙ ap (reduction.combine m) (is ∙ onto_apart b fb l)
      ∙ sym (laws.associative _ _ _ fm fb r)
      ∙ ap (λ n. reduction.combine n (reduction_from reduction reduction.unit l)) so_far
      ∙ sym (onto-append first its done l)
