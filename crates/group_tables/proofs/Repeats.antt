-- Lists without repeats, under an equality that an order gives.
use Rattle.std.proofs.Common.{◌≡◌, Bool, true, false, ◌||◌, not, cond, List, [], ◌∷◌, filter, refl, sym, ap, ◌∙◌}
use Rattle.std.specs.declared.cmp.Ordering.{Ordering}
use Rattle.std.specs.List.{AllByRecursion, IsDistinct, list_any}
use Rattle.std.specs.Ordering.{eq_by_cmp}
use Rattle.std.specs.Cmp.{IsTotalOrder, eq_by_cmp_equiv}
use Rattle.semantics.specs.Lists.{distinct}

all-filter : {X : Type 0} (P : X → Type 0) (p : X → Bool) (xs : List X) → AllByRecursion P xs → AllByRecursion P (filter p xs)
all-filter P p [] h = tt
all-filter P p (x ∷ xs) h = elim (p x) as (λ b. AllByRecursion P (cond b (x ∷ filter p xs) (filter p xs))) [ true ↦ (h.0, all-filter P p xs h.1) | false ↦ all-filter P p xs h.1 ]

-- where those that are the same as a thing are left out, the others are none of them
none-left : {X : Type 0} (same : X → X → Bool) (x : X) (ys : List X) → AllByRecursion (λ y. same x y ≡ false) (filter (λ y. not (same x y)) ys)
none-left same x [] = tt
none-left same x (y ∷ ys) =
    elim (same x y) as (λ b. same x y ≡ b → AllByRecursion (λ z. same x z ≡ false) (cond (not b) (y ∷ filter (λ z. not (same x z)) ys) (filter (λ z. not (same x z)) ys))) [
      | true ↦ λ e. none-left same x ys
      | false ↦ λ e. (e, none-left same x ys)
    ] refl

distinct-filter : {X : Type 0} (same : X → X → Bool) (p : X → Bool) (xs : List X) → IsDistinct same xs → IsDistinct same (filter p xs)
unfolding IsDistinct
distinct-filter same p [] d = tt
distinct-filter same p (x ∷ xs) d = elim (p x) as (λ b. IsDistinct same (cond b (x ∷ filter p xs) (filter p xs))) [
  | true ↦ (all-filter (λ y. same x y ≡ false) p xs d.0, distinct-filter same p xs d.1)
  | false ↦ distinct-filter same p xs d.1
]

pub distinct-is : {X : Type 0} (same : X → X → Bool) (xs : List X) → IsDistinct same (distinct same xs)
unfolding IsDistinct
distinct-is same [] = tt
distinct-is same (x ∷ xs) = (none-left same x (distinct same xs), distinct-filter same (λ y. not (same x y)) (distinct same xs) (distinct-is same xs))

module _ {X : Type 0} {order : X → X → Ordering} (o : IsTotalOrder order) where
  abbrev same : X → X → Bool
  same x y = eq_by_cmp order x y

  pub alike : (q p : X) → same q p ≡ true → (xs : List X) → list_any (same q) xs ≡ list_any (same p) xs
  alike q p e [] = refl
  alike q p e (x ∷ xs) = λ i. (eq_by_cmp_equiv o).congr q p x e i || alike q p e xs i

  -- a thing that is not the same as those that are left out stands there as before
  any-left : (q x : X) → same q x ≡ false → (ys : List X) → list_any (same q) (filter (λ y. not (same x y)) ys) ≡ list_any (same q) ys
  any-left q x n [] = refl
  any-left q x n (y ∷ ys) =
      let laws = eq_by_cmp_equiv o in
      elim (same x y) as (λ b. same x y ≡ b → list_any (same q) (cond (not b) (y ∷ filter (λ z. not (same x z)) ys) (filter (λ z. not (same x z)) ys)) ≡ (same q y || list_any (same q) ys)) [
        | true ↦ λ e. any-left q x n ys ∙ ap (λ b. b || list_any (same q) ys) (sym (laws.symm q y ∙ sym (laws.congr x y q e) ∙ laws.symm x q ∙ n))
        | false ↦ λ e. ap (λ b. same q y || b) (any-left q x n ys)
      ] refl

  -- a thing stands in a list as it does in it without repeats
  pub any-distinct : (q : X) (xs : List X) → list_any (same q) (distinct same xs) ≡ list_any (same q) xs
  any-distinct q [] = refl
  any-distinct q (x ∷ xs) =
      elim (same q x) as (λ b. same q x ≡ b → (b || list_any (same q) (filter (λ y. not (same x y)) (distinct same xs))) ≡ (b || list_any (same q) xs)) [
        | true ↦ λ e. refl
        | false ↦ λ e. any-left q x e (distinct same xs) ∙ any-distinct q xs
      ] refl
