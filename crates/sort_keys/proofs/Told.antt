-- How lists of numbers stand to each other where the first place in which they differ is in both of
-- them.
use Rattle.std.proofs.Common.{◌≡◌, ◌⊎◌, inl, inr, ◌+◌, ◌-◌, ◌*◌, ◌<◌, ℕ, zero, suc, List, [], ◌∷◌, ◌++◌, drop, map, refl, sym, ap, subst, ◌∙◌, arith}
use Rattle.std.specs.declared.cmp.Ordering.{Ordering}
use Rattle.std.specs.declared.cmp.Ordering.TheVariants.{Less, Equal, Greater}
use Rattle.std.specs.Ordering.{nat_cmp, ordering_reverse, ordering_then}
use Rattle.std.specs.Cmp.Lexicographic.{slice_cmp}
use Rattle.std.specs.List.{AllByRecursion}
use Rattle.std.proofs.lemmas.Bool.{cases_order}
use Rattle.std.proofs.lemmas.Bool.Decides.{nat_tests}
use Rattle.std.proofs.lemmas.List.{drop-drop}
use Rattle.sort_keys.specs.Laws.{ArePartsInOrder, IsBeginning}
use Rattle.sort_keys.specs.SortKeys.{parts_of, parts_order, with_digits}

pub less-is : (m k : ℕ) → m < k → nat_cmp m k ≡ Less
less-is m k h = grind (arith, nat_tests)

pub greater-is : (m k : ℕ) → k < m → nat_cmp m k ≡ Greater
greater-is m k h = grind (arith, nat_tests)

pub equal-is : (m : ℕ) → nat_cmp m m ≡ Equal
equal-is m = grind (arith, nat_tests)

-- each number of a list is a byte
abbrev pub AreBytes : List ℕ → Type 0
AreBytes s = AllByRecursion (λ b. b < 256) s

-- two lists are the same, or they differ in a place that is in both of them, and the numbers there
-- stand so to each other
pub data Told : Ordering → List ℕ → List ℕ → Type 0 where
  alike : {s : List ℕ} → Told Equal s s
  less : {x y : ℕ} {s t : List ℕ} → x < y → Told Less (x ∷ s) (y ∷ t)
  greater : {x y : ℕ} {s t : List ℕ} → y < x → Told Greater (x ∷ s) (y ∷ t)
  behind : {o : Ordering} {x : ℕ} {s t : List ℕ} → Told o s t → Told o (x ∷ s) (x ∷ t)

-- the same numbers in front
pub behind-all : {o : Ordering} (s : List ℕ) {u v : List ℕ} → Told o u v → Told o (s ++ u) (s ++ v)
behind-all [] h = h
behind-all (x ∷ s) h = behind (behind-all s h)

-- what stands behind tells where nothing in front does
pub told-then : {o p : Ordering} {s t u v : List ℕ} → Told o s t → (o ≡ Equal → Told p u v) → Told (ordering_then o p) (s ++ u) (t ++ v)
told-then (alike {s = s}) h = behind-all s (h refl)
told-then (less a) h = less a
told-then (greater a) h = greater a
told-then (behind a) h = behind (told-then a h)

same-before : (s u v : List ℕ) → slice_cmp nat_cmp (s ++ u) (s ++ v) ≡ slice_cmp nat_cmp u v
same-before [] u v = refl
same-before (x ∷ s) u v = rw (equal-is x) (same-before s u v)

same-order : (s : List ℕ) → slice_cmp nat_cmp s s ≡ Equal
same-order [] = refl
same-order (x ∷ s) = rw (equal-is x) (same-order s)

-- so do whatever lists stand behind, however they stand to each other
pub told-before : {o : Ordering} {s t : List ℕ} (u v : List ℕ) → Told o s t → slice_cmp nat_cmp (s ++ u) (t ++ v) ≡ ordering_then o (slice_cmp nat_cmp u v)
told-before u v (alike {s = s}) = same-before s u v
told-before u v (less {x = x} {y = y} a) = rw (less-is x y a) refl
told-before u v (greater {x = x} {y = y} a) = rw (greater-is x y a) refl
told-before u v (behind {o = o} {x = x} a) = rw (equal-is x) (told-before u v a)

pub told-order : {o : Ordering} {s t : List ℕ} → Told o s t → slice_cmp nat_cmp s t ≡ o
told-order (alike {s = s}) = same-order s
told-order (less {x = x} {y = y} a) = rw (less-is x y a) refl
told-order (greater {x = x} {y = y} a) = rw (greater-is x y a) refl
told-order (behind {o = o} {x = x} a) = rw (equal-is x) (told-order a)

-- the complements stand the other way round
pub told-turned : {o : Ordering} {s t : List ℕ} → Told o s t → AreBytes s → AreBytes t → Told (ordering_reverse o) (map (λ b. 255 - b) s) (map (λ b. 255 - b) t)
told-turned alike a b = alike
told-turned (less h) a b = greater (omega (arith, h, b.0))
told-turned (greater h) a b = less (omega (arith, h, a.0))
told-turned (behind h) a b = behind (told-turned h a.1 b.1)

-- ---- the first bytes as a number

-- a greater number is greater with whatever digits behind
digits-less : (n m k : ℕ) (s t : List ℕ) → m < k → AreBytes s → with_digits m n s < with_digits k n t
unfolding with_digits
digits-less zero m k s t h bytes = h
digits-less (suc n) m k [] [] h bytes = digits-less n (256 * m) (256 * k) [] [] (omega (arith, h)) bytes
digits-less (suc n) m k [] (c ∷ t) h bytes = digits-less n (256 * m) (256 * k + c) [] t (omega (arith, h)) bytes
digits-less (suc n) m k (b ∷ s) [] h bytes = digits-less n (256 * m + b) (256 * k) s [] (omega (arith, h, bytes.0)) bytes.1
digits-less (suc n) m k (b ∷ s) (c ∷ t) h bytes = digits-less n (256 * m + b) (256 * k + c) s t (omega (arith, h, bytes.0)) bytes.1

-- the numbers tell how the lists stand, or the lists behind the bytes of the numbers do
abbrev NumbersTell : Ordering → ℕ → ℕ → List ℕ → List ℕ → Type 0
NumbersTell o a b s t = ((p : Ordering) → ordering_then (nat_cmp a b) p ≡ o) ⊎ ((nat_cmp a b ≡ Equal) × Told o s t)

digits-tell : {o : Ordering} {s t : List ℕ} (n m : ℕ) → Told o s t → AreBytes s → AreBytes t → NumbersTell o (with_digits m n s) (with_digits m n t) (drop n s) (drop n t)
unfolding with_digits
digits-tell zero m h a b = inr (equal-is m, h)
digits-tell (suc n) m (alike {s = s}) a b = inr (equal-is (with_digits m (suc n) s), alike)
digits-tell (suc n) m (less {x = x} {y = y} {s = s} {t = t} h) a b = inl (λ p. rw (less-is _ _ (digits-less n (256 * m + x) (256 * m + y) s t (omega (arith, h)) a.1)) refl)
digits-tell (suc n) m (greater {x = x} {y = y} {s = s} {t = t} h) a b = inl (λ p. rw (greater-is _ _ (digits-less n (256 * m + y) (256 * m + x) t s (omega (arith, h)) b.1)) refl)
digits-tell (suc n) m (behind {o = o} {x = x} h) a b = digits-tell n (256 * m + x) h a.1 b.1

rest-bytes : (n : ℕ) (s : List ℕ) → AreBytes s → AreBytes (drop n s)
rest-bytes zero s a = a
rest-bytes (suc n) [] a = a
rest-bytes (suc n) (b ∷ s) a = rest-bytes n s a.1

-- the parts of two lists stand to each other as the lists do
pub parts-tell : {o : Ordering} {s t : List ℕ} → Told o s t → AreBytes s → AreBytes t → parts_order (parts_of s) (parts_of t) ≡ o
parts-tell {o = o} {s = s} {t = t} h a b =
    elim (digits-tell 16 0 h a b) as (λ _. parts_order (parts_of s) (parts_of t) ≡ o) [
      | inl first ↦ first _
      | inr next ↦
          elim (digits-tell 16 0 next.1 (rest-bytes 16 s a) (rest-bytes 16 t b)) as (λ _. parts_order (parts_of s) (parts_of t) ≡ o) [
            | inl second ↦ rw next.0 (second _)
            | inr rest ↦ rw (next.0, rest.0) (λ i. slice_cmp nat_cmp (sym (drop-drop 16 16 s) i) (sym (drop-drop 16 16 t) i)) ∙ told-order rest.1
          ]
    ]

-- ---- lists of which neither is the beginning of the other

first-tells : (x y : ℕ) (s t : List ℕ) → (x ≡ y) ⊎ ((x < y) ⊎ (y < x)) → (x ≡ y → Told (slice_cmp nat_cmp s t) s t) → Told (ordering_then (nat_cmp x y) (slice_cmp nat_cmp s t)) (x ∷ s) (y ∷ t)
first-tells x y s t (inl e) next =
    let o = slice_cmp nat_cmp s t in
    subst (λ (k : ℕ). Told (ordering_then (nat_cmp x k) o) (x ∷ s) (k ∷ t)) e
    (subst (λ (p : Ordering). Told (ordering_then p o) (x ∷ s) (x ∷ t)) (sym (equal-is x)) (behind (next e)))
first-tells x y s t (inr (inl h)) next = subst (λ (p : Ordering). Told (ordering_then p (slice_cmp nat_cmp s t)) (x ∷ s) (y ∷ t)) (sym (less-is x y h)) (less h)
first-tells x y s t (inr (inr h)) next = subst (λ (p : Ordering). Told (ordering_then p (slice_cmp nat_cmp s t)) (x ∷ s) (y ∷ t)) (sym (greater-is x y h)) (greater h)

-- a number more in front of both
longer : (x : ℕ) (s t : List ℕ) → IsBeginning s t → IsBeginning (x ∷ s) (x ∷ t)
longer x s t (b, (more, e)) = (b, (more, ap (λ u. x ∷ u) e))

apart-tell : (s t : List ℕ) → ¬ IsBeginning s t → ¬ IsBeginning t s → Told (slice_cmp nat_cmp s t) s t
apart-tell [] [] a b = alike
apart-tell [] (y ∷ t) a b = absurd (a (y, (t, refl)))
apart-tell (x ∷ s) [] a b = absurd (b (x, (s, refl)))
apart-tell (x ∷ s) (y ∷ t) a b =
    first-tells x y s t (cases_order x y)
    (λ e. apart-tell s t
    (λ i. a (subst (λ (k : ℕ). IsBeginning (x ∷ s) (k ∷ t)) e (longer x s t i)))
    (λ i. b (subst (λ (k : ℕ). IsBeginning (k ∷ t) (x ∷ s)) e (longer x t s i))))

-- their parts stand as they do
pub parts-apart : (s t : List ℕ) → ArePartsInOrder s t
parts-apart s t x y a b = parts-tell (apart-tell s t a b) x y
