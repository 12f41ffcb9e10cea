-- Sums over lists, and lists that are the same bag.
use Rattle.std.proofs.Common.{◌≡◌, ◌+◌, ℕ, Bool, true, false, cond, List, [], ◌∷◌, ◌++◌, map, filter, length, refl, sym, ap, ◌∙◌, sum_by, arith}
use Rattle.std.proofs.lemmas.List.Sorted.{sum_by-IsPermutation}
use Rattle.std.proofs.lemmas.List.Sums.{sum_by-append, sum_by-cons}
use Rattle.std.specs.List.{flat_map}
use Rattle.std.specs.List.Sorted.{IsPermutation}
use Rattle.group_tables.specs.Bags.{SameBag}

pub sum_by-map : {X Y : Type 0} (w : Y → ℕ) (f : X → Y) (xs : List X) → sum_by w (map f xs) ≡ sum_by (λ x. w (f x)) xs
sum_by-map w f [] = refl
sum_by-map w f (x ∷ xs) = sum_by-cons w (f x) (map f xs) ∙ ap (λ n. w (f x) + n) (sum_by-map w f xs) ∙ sym (sum_by-cons (λ y. w (f y)) x xs)

pub sum_by-flat_map : {X Y : Type 0} (w : Y → ℕ) (f : X → List Y) (xs : List X) → sum_by w (flat_map f xs) ≡ sum_by (λ x. sum_by w (f x)) xs
sum_by-flat_map w f [] = refl
sum_by-flat_map w f (x ∷ xs) =
    sum_by-append w (f x) (flat_map f xs) ∙ ap (λ n. sum_by w (f x) + n) (sum_by-flat_map w f xs)
    ∙ sym (sum_by-cons (λ y. sum_by w (f y)) x xs)

pub sum_by-filter : {X : Type 0} (w : X → ℕ) (p : X → Bool) (xs : List X) → sum_by w (filter p xs) ≡ sum_by (λ x. cond (p x) (w x) 0) xs
sum_by-filter w p [] = refl
sum_by-filter w p (x ∷ xs) =
    (elim (p x) as (λ b. sum_by w (cond b (x ∷ filter p xs) (filter p xs)) ≡ cond b (w x) 0 + sum_by (λ y. cond (p y) (w y) 0) xs) [
      | true ↦ sum_by-cons w x (filter p xs) ∙ ap (λ n. w x + n) (sum_by-filter w p xs)
      | false ↦ let h = sum_by-filter w p xs in omega (arith, h)
    ]) ∙ sym (sum_by-cons (λ y. cond (p y) (w y) 0) x xs)

-- where each thing weighs one
pub ones : {X : Type 0} (xs : List X) → sum_by (λ _. 1) xs ≡ length xs
ones [] = refl
ones (x ∷ xs) = omega (arith, sum_by-cons (λ _. 1) x xs, ones xs)

-- what the first things of two lists that are the same bag weigh, and what the rests do
pub bag-heads : {X : Type 0} (x y : X) (xs ys : List X) → SameBag (x ∷ xs) (y ∷ ys) → (w : X → ℕ) → w x + sum_by w xs ≡ w y + sum_by w ys
bag-heads x y xs ys same w = sym (sum_by-cons w x xs) ∙ same w ∙ sum_by-cons w y ys

-- where the first things are one, the rests are the same bag
pub bag-rests : {X : Type 0} (x y : X) (xs ys : List X) → x ≡ y → SameBag (x ∷ xs) (y ∷ ys) → SameBag xs ys
bag-rests x y xs ys first same = λ w. let e = bag-heads x y xs ys same w in let g = ap w first in omega (arith, e, g)

pub bag-append : {X : Type 0} (xs ys us vs : List X) → SameBag xs ys → SameBag us vs → SameBag (xs ++ us) (ys ++ vs)
bag-append xs ys us vs a b = λ w. sum_by-append w xs us ∙ (λ i. a w i + b w i) ∙ sym (sum_by-append w ys vs)

pub bag-map : {X Y : Type 0} (f : X → Y) (xs ys : List X) → SameBag xs ys → SameBag (map f xs) (map f ys)
bag-map f xs ys same = λ w. sum_by-map w f xs ∙ same (λ x. w (f x)) ∙ sym (sum_by-map w f ys)

pub bag-flat_map : {X Y : Type 0} (f : X → List Y) (xs ys : List X) → SameBag xs ys → SameBag (flat_map f xs) (flat_map f ys)
bag-flat_map f xs ys same = λ w. sum_by-flat_map w f xs ∙ same (λ x. sum_by w (f x)) ∙ sym (sum_by-flat_map w f ys)

pub bag-filter : {X : Type 0} (p : X → Bool) (xs ys : List X) → SameBag xs ys → SameBag (filter p xs) (filter p ys)
bag-filter p xs ys s = λ w. sum_by-filter w p xs ∙ s (λ x. cond (p x) (w x) 0) ∙ sym (sum_by-filter w p ys)

pub length-bag : {X : Type 0} (xs ys : List X) → SameBag xs ys → length xs ≡ length ys
length-bag xs ys s = sym (ones xs) ∙ s (λ _. 1) ∙ ones ys

-- a list and its permutation are the same bag
pub bag-permutation : {X : Type 0} (xs ys : List X) → IsPermutation xs ys → SameBag xs ys
bag-permutation xs ys moved w = sym (sum_by-IsPermutation w xs ys moved)
