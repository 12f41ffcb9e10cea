-- Lists in which each thing stands once.
use Rattle.std.proofs.Common.{◌≡◌, ◌+◌, ◌≤◌, ℕ, Bool, true, false, cond, List, [], ◌∷◌, refl, sym, ap, subst, ◌∙◌, sum_by, arith}
use Rattle.std.proofs.lemmas.List.Sums.{sum_by-cons}
use Rattle.std.specs.Bool.{Decides}
use Rattle.std.specs.List.{AllByRecursion, IsDistinct}

module _ {K : Type 0} (e : K → K → Bool) (decides : (k l : K) → Decides (e k l) (k ≡ l)) where
  abbrev one : K → K → ℕ
  one k l = cond (e k l) 1 0

  itself : (k : K) → e k k ≡ true
  itself k = (decides k k).1 refl

  none-counted : (k : K) (ks : List K) → AllByRecursion (λ l. e k l ≡ false) ks → sum_by (one k) ks ≡ 0
  none-counted k [] h = refl
  none-counted k (l ∷ ks) h = sum_by-cons (one k) l ks ∙ (λ i. cond (h.0 i) 1 0 + none-counted k ks h.1 i)

  not-counted : (k : K) (ks : List K) → sum_by (one k) ks ≡ 0 → AllByRecursion (λ l. e k l ≡ false) ks
  not-counted k [] h = tt
  not-counted k (l ∷ ks) h = elim (e k l) as (λ b. e k l ≡ b → cond b 1 0 + sum_by (one k) ks ≡ 0 → (e k l ≡ false) × AllByRecursion (λ m. e k m ≡ false) ks) [
    | true ↦ λ f z. absurd (omega (arith, z))
    | false ↦ λ f z. (f, not-counted k ks (omega (arith, z)))
  ] refl (sym (sum_by-cons (one k) l ks) ∙ h)

  -- of different things each is counted once at most
  once-counted : (k : K) (ks : List K) → IsDistinct e ks → sum_by (one k) ks ≤ 1
  unfolding IsDistinct
  once-counted k [] d = omega arith
  once-counted k (l ∷ ks) d = subst (λ n. n ≤ 1) (sym (sum_by-cons (one k) l ks)) (elim (e k l) as (λ b. e k l ≡ b → cond b 1 0 + sum_by (one k) ks ≤ 1) [
    | true ↦ λ f. let same : k ≡ l = (decides k l).0 f in
        let z : sum_by (one k) ks ≡ 0 = ap (λ m. sum_by (one m) ks) same ∙ none-counted l ks d.0 in omega (arith, z)
    | false ↦ λ f. let h = once-counted k ks d.1 in omega (arith, h)
  ] refl)

  -- where each is counted once at most they are different
  distinct-counted : (ks : List K) → ((k : K) → sum_by (one k) ks ≤ 1) → IsDistinct e ks
  unfolding IsDistinct
  distinct-counted [] h = tt
  distinct-counted (k ∷ ks) h = (
    not-counted k ks (let a = h k in let b = sum_by-cons (one k) k ks ∙ ap (λ t. cond t 1 0 + sum_by (one k) ks) (itself k) in omega (arith, a, b)),
    distinct-counted ks (λ l. omega (arith, h l, sum_by-cons (one l) k ks)),
  )

  pub distinct-same : (ks ls : List K) → ((f : K → ℕ) → sum_by f ks ≡ sum_by f ls) → IsDistinct e ls → IsDistinct e ks
  distinct-same ks ls same d = distinct-counted ks (λ k. let a = same (one k) in let b = once-counted k ls d in omega (arith, a, b))
