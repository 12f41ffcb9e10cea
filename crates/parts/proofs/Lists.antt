-- Lists in order and lists without repeats: what holds of their things, and how long they are.
use Rattle.std.proofs.Common.{◌≡◌, ◌≤◌, Bool, true, false, not, cond, suc, List, [], ◌∷◌, length, refl, ap, ◌∙◌, arith}
use Rattle.std.proofs.lemmas.List.Sums.{count_by-le-length, length-filter}
use Rattle.std.specs.List.{AllByRecursion, filter}
use Rattle.std.specs.Ordering.{is_gt}
use Rattle.std.specs.declared.cmp.Ordering.{Ordering}
use Rattle.semantics.specs.Lists.{distinct}
use Rattle.semantics.specs.Lists.{sorted_by, inserted_by}

-- ---- what holds of each thing

all-inserted : {X : Type 0} (order : X → X → Ordering) (P : X → Type 0) (x : X) (ys : List X) → P x → AllByRecursion P ys → AllByRecursion P (inserted_by order x ys)
all-inserted order P x [] h all = (h, tt)
all-inserted order P x (y ∷ ys) h all =
    elim (is_gt (order x y)) as (λ (later : Bool). AllByRecursion P (cond later (y ∷ inserted_by order x ys) (x ∷ y ∷ ys))) [
      | true ↦ (all.0, all-inserted order P x ys h all.1)
      | false ↦ (h, all)
    ]

pub all-ordered : {X : Type 0} (order : X → X → Ordering) (P : X → Type 0) (xs : List X) → AllByRecursion P xs → AllByRecursion P (sorted_by order xs)
all-ordered order P [] all = tt
all-ordered order P (x ∷ xs) all = all-inserted order P x (sorted_by order xs) all.0 (all-ordered order P xs all.1)

pub weaker : {X : Type 0} {P Q : X → Type 0} → ((x : X) → P x → Q x) → (xs : List X) → AllByRecursion P xs → AllByRecursion Q xs
weaker h [] all = tt
weaker h (x ∷ xs) all = (h x all.0, weaker h xs all.1)

-- ---- how long they are

length-inserted : {X : Type 0} (order : X → X → Ordering) (x : X) (ys : List X) → length (inserted_by order x ys) ≡ suc (length ys)
length-inserted order x [] = refl
length-inserted order x (y ∷ ys) = elim (is_gt (order x y)) as (λ (later : Bool). length (cond later (y ∷ inserted_by order x ys) (x ∷ y ∷ ys)) ≡ suc (suc (length ys))) [
  | true ↦ ap suc (length-inserted order x ys)
  | false ↦ refl
]

pub length-ordered : {X : Type 0} (order : X → X → Ordering) (xs : List X) → length (sorted_by order xs) ≡ length xs
length-ordered order [] = refl
length-ordered order (x ∷ xs) = length-inserted order x (sorted_by order xs) ∙ ap suc (length-ordered order xs)

pub filter-le : {X : Type 0} (p : X → Bool) (xs : List X) → length (filter p xs) ≤ length xs
filter-le p xs = omega (arith, length-filter p xs, count_by-le-length p xs)

pub distinct-le : {X : Type 0} (same : X → X → Bool) (xs : List X) → length (distinct same xs) ≤ length xs
distinct-le same [] = omega arith
distinct-le same (x ∷ xs) = omega (arith, filter-le (λ y. not (same x y)) (distinct same xs), distinct-le same xs)
