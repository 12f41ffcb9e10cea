-- A list that is changed in place, number by number.
use Rattle.std.proofs.Common.{◌≡◌, ◌+◌, ◌<◌, ◌≤◌, ℕ, zero, suc, List, [], ◌∷◌, length, map, get_or, refl, sym, ap, subst, ◌∙◌, arith, add-one}
use Rattle.std.proofs.Math.ListN.{set}
use Rattle.std.specs.List.{AllByRecursion}

-- a list whose first numbers are changed, so many of them
abbrev pub changed : (ℕ → ℕ) → ℕ → List ℕ → List ℕ
changed f zero s = s
changed f (suc i) [] = []
changed f (suc i) (b ∷ s) = f b ∷ changed f i s

-- the number that is changed next is as it was
pub next-is : (f : ℕ → ℕ) (i : ℕ) (s : List ℕ) → get_or (changed f i s) i 0 ≡ get_or s i 0
next-is f zero s = refl
next-is f (suc i) [] = refl
next-is f (suc i) (b ∷ s) = next-is f i s

change : (f : ℕ → ℕ) (i : ℕ) (s : List ℕ) → i < length s → set (changed f i s) i (f (get_or s i 0)) ≡ changed f (suc i) s
change f i [] h = absurd (omega (arith, h))
change f zero (b ∷ s) h = refl
change f (suc i) (b ∷ s) h = ap (λ (t : List ℕ). f b ∷ t) (change f i s (omega (arith, h)))

-- one number more
pub change-next : (f : ℕ → ℕ) (i n : ℕ) (s now : List ℕ) → now ≡ changed f i s → i < length s → n ≡ f (get_or now i 0) → set now i n ≡ changed f (i + 1) s
change-next f i n s now is h e =
    subst (λ k. set now i n ≡ changed f k s) (sym (add-one i))
    ((λ j. set (is j) i ((e ∙ ap (λ (t : List ℕ). f (get_or t i 0)) is ∙ ap f (next-is f i s)) j)) ∙ change f i s h)

-- all of them
pub change-all : (f : ℕ → ℕ) (i : ℕ) (s : List ℕ) → length s ≤ i → changed f i s ≡ map f s
change-all f zero [] h = refl
change-all f zero (b ∷ s) h = absurd (omega (arith, h))
change-all f (suc i) [] h = refl
change-all f (suc i) (b ∷ s) h = ap (λ (t : List ℕ). f b ∷ t) (change-all f i s (omega (arith, h)))

-- changing keeps how many there are
pub changed-length : (f : ℕ → ℕ) (i : ℕ) (s : List ℕ) → length (changed f i s) ≡ length s
changed-length f zero s = refl
changed-length f (suc i) [] = refl
changed-length f (suc i) (b ∷ s) = ap suc (changed-length f i s)

-- what holds of each number holds of the one at a place
pub at-place : (P : ℕ → Type 0) (s : List ℕ) (i : ℕ) → AllByRecursion P s → i < length s → P (get_or s i 0)
at-place P [] i all h = absurd (omega (arith, h))
at-place P (b ∷ s) zero all h = all.0
at-place P (b ∷ s) (suc i) all h = at-place P s i all.1 (omega (arith, h))
