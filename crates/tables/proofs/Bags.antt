-- What holds of each thing of a list: of lists made from others, and of lists that are the same
-- bag.
use Rattle.std.proofs.Common.{◌≡◌, ◌+◌, ℕ, Bool, true, false, not, cond, List, [], ◌∷◌, ◌++◌, map, Option, Some, None, unwrap_or, refl, sym, ◌∙◌, sum_by, arith}
use Rattle.std.proofs.lemmas.List.Sums.{sum_by-cons}
use Rattle.std.specs.Bool.{Decides}
use Rattle.std.specs.List.{AllByRecursion, cons_option, filter, filter_map, find, flat_map}
use Rattle.semantics.specs.Lists.{distinct}
use Rattle.group_tables.specs.Bags.{SameBag}

-- ---- lists made from others

pub all-append : {X : Type 0} (P : X → Type 0) (xs ys : List X) → AllByRecursion P xs → AllByRecursion P ys → AllByRecursion P (xs ++ ys)
all-append P [] ys a b = b
all-append P (x ∷ xs) ys a b = (a.0, all-append P xs ys a.1 b)

pub all-filter : {X : Type 0} (P : X → Type 0) (test : X → Bool) (xs : List X) → AllByRecursion P xs → AllByRecursion P (filter test xs)
all-filter P test [] h = tt
all-filter P test (x ∷ xs) h = elim (test x) as (λ b. AllByRecursion P (cond b (x ∷ filter test xs) (filter test xs))) [
  | true ↦ (h.0, all-filter P test xs h.1)
  | false ↦ all-filter P test xs h.1
]

pub all-distinct : {X : Type 0} (P : X → Type 0) (same : X → X → Bool) (xs : List X) → AllByRecursion P xs → AllByRecursion P (distinct same xs)
all-distinct P same [] h = tt
all-distinct P same (x ∷ xs) h = (h.0, all-filter P (λ y. not (same x y)) (distinct same xs) (all-distinct P same xs h.1))

pub all-map : {X Y : Type 0} (P : Y → Type 0) (f : X → Y) (xs : List X) → AllByRecursion (λ x. P (f x)) xs → AllByRecursion P (map f xs)
all-map P f [] h = tt
all-map P f (x ∷ xs) h = (h.0, all-map P f xs h.1)

pub all-everywhere : {X : Type 0} (P : X → Type 0) (xs : List X) → ((x : X) → P x) → AllByRecursion P xs
all-everywhere P [] h = tt
all-everywhere P (x ∷ xs) h = (h x, all-everywhere P xs h)

pub all-flat_map : {X Y : Type 0} (P : Y → Type 0) (f : X → List Y) (xs : List X) → ((x : X) → AllByRecursion P (f x))
    → AllByRecursion P (flat_map f xs)
all-flat_map P f [] h = tt
all-flat_map P f (x ∷ xs) h = all-append P (f x) (flat_map f xs) (h x) (all-flat_map P f xs h)

added : {X : Type 0} (P : X → Type 0) (o : Option X) (xs : List X) → ((x : X) → o ≡ Some x → P x) → AllByRecursion P xs
    → AllByRecursion P (cons_option o xs)
added P None xs h more = more
added P (Some x) xs h more = (h x refl, more)

pub all-filter_map : {X Y : Type 0} (P : Y → Type 0) (f : X → Option Y) (xs : List X) → AllByRecursion (λ x. (y : Y) → f x ≡ Some y → P y) xs
    → AllByRecursion P (filter_map f xs)
all-filter_map P f [] h = tt
all-filter_map P f (x ∷ xs) h = added P (f x) (filter_map f xs) h.0 (all-filter_map P f xs h.1)

-- what is found is of the list, or else the other thing
pub find-such : {X : Type 0} (P : X → Type 0) (test : X → Bool) (xs : List X) (d : X) → P d → AllByRecursion P xs → P (unwrap_or (find test xs) d)
find-such P test [] d other h = other
find-such P test (x ∷ xs) d other h = elim (test x) as (λ b. P (unwrap_or (cond b (Some x) (find test xs)) d)) [
  | true ↦ h.0
  | false ↦ find-such P test xs d other h.1
]

-- ---- lists that are the same bag

abbrev fails : {X : Type 0} → (X → Bool) → X → ℕ
fails t x = cond (t x) 0 1

sum_by-fails : {X : Type 0} (t : X → Bool) (xs : List X) → AllByRecursion (λ x. t x ≡ true) xs → sum_by (fails t) xs ≡ 0
sum_by-fails t [] h = refl
sum_by-fails t (x ∷ xs) h = sum_by-cons (fails t) x xs ∙ (λ i. cond (h.0 i) 0 1 + sum_by-fails t xs h.1 i)

none-fails : {X : Type 0} (t : X → Bool) (xs : List X) → sum_by (fails t) xs ≡ 0 → AllByRecursion (λ x. t x ≡ true) xs
none-fails t [] h = tt
none-fails t (x ∷ xs) h = elim (t x) as (λ b. t x ≡ b → cond b 0 1 + sum_by (fails t) xs ≡ 0 → (t x ≡ true) × AllByRecursion (λ y. t y ≡ true) xs) [
  | true ↦ λ e z. (e, none-fails t xs (omega (arith, z)))
  | false ↦ λ e z. absurd (omega (arith, z))
] refl (sym (sum_by-cons (fails t) x xs) ∙ h)

pub all-same : {X : Type 0} (t : X → Bool) (xs ys : List X) → SameBag xs ys → AllByRecursion (λ x. t x ≡ true) ys
    → AllByRecursion (λ x. t x ≡ true) xs
all-same t xs ys same h = none-fails t xs (same (fails t) ∙ sum_by-fails t ys h)

changed : {X : Type 0} (P Q : X → Type 0) (xs : List X) → ((x : X) → P x → Q x) → AllByRecursion P xs → AllByRecursion Q xs
changed P Q [] h a = tt
changed P Q (x ∷ xs) h a = (h x a.0, changed P Q xs h a.1)

-- what a test decides and holds of each thing of a list holds of each thing of the same bag
pub all-decided : {X : Type 0} (t : X → Bool) (P : X → Type 0) → ((x : X) → Decides (t x) (P x)) → (xs ys : List X) → SameBag xs ys
    → AllByRecursion P ys → AllByRecursion P xs
all-decided t P decides xs ys same h =
    changed (λ x. t x ≡ true) P xs (λ x. (decides x).0) (all-same t xs ys same (changed P (λ x. t x ≡ true) ys (λ x. (decides x).1) h))

-- ---- sums

-- sums of the same numbers
pub sum_by-same : {X : Type 0} (f g : X → ℕ) (xs : List X) → ((x : X) → f x ≡ g x) → sum_by f xs ≡ sum_by g xs
sum_by-same f g [] h = refl
sum_by-same f g (x ∷ xs) h = sum_by-cons f x xs ∙ (λ i. h x i + sum_by-same f g xs h i) ∙ sym (sum_by-cons g x xs)
