-- Lists without repeats, element by element.
use Rattle.std.proofs.Common.{◌≡◌, ◌∙◌, ℕ, zero, suc, ◌+◌, ◌<◌, ◌==◌, Bool, true, false, cond, not, ◌||◌, List, [], ◌∷◌, ◌++◌, length, take, get_or, refl, sym, ap, arith}
use Rattle.std.specs.Prelude.{filter}
use Rattle.std.specs.List.{list_any}
use Rattle.std.proofs.lemmas.Bool.Decides.{nat_tests}
use Rattle.std.proofs.lemmas.List.{append-nil, take_more}
use Rattle.semantics.specs.Lists.{distinct}

-- A filter of a list with one element more.
filter_push : {A : Type 0} (k : A → Bool) (xs : List A) (z : A) → filter k (xs ++ z ∷ []) ≡ filter k xs ++ cond (k z) (z ∷ []) []
filter_push k [] z = elim (k z) as (λ (b : Bool). cond b (z ∷ []) [] ≡ [] ++ cond b (z ∷ []) []) [ true ↦ refl | false ↦ refl ]
filter_push k (x ∷ xs) z =
    elim (k x) as (λ (b : Bool). cond b (x ∷ filter k (xs ++ z ∷ [])) (filter k (xs ++ z ∷ [])) ≡ cond b (x ∷ filter k xs) (filter k xs) ++ cond (k z) (z ∷ []) []) [
      | true ↦ ap (λ ys. x ∷ ys) (filter_push k xs z)
      | false ↦ filter_push k xs z
    ]

-- One element more: it is added where none is the same.
pub distinct_push : {A : Type 0} (same : A → A → Bool) (xs : List A) (z : A) → distinct same (xs ++ z ∷ []) ≡ cond (list_any (λ y. same y z) xs) (distinct same xs) (distinct same xs ++ z ∷ [])
distinct_push same [] z = refl
distinct_push {A} same (x ∷ xs) z =
    let keep : A → Bool = λ y. not (same x y) in
    let front = distinct same xs in
    ap (λ (ys : List A). x ∷ filter keep ys) (distinct_push same xs z)
    ∙ (elim (list_any (λ y. same y z) xs) as (λ (b : Bool). x ∷ filter keep (cond b front (front ++ z ∷ [])) ≡ cond (same x z || b) (x ∷ filter keep front) ((x ∷ filter keep front) ++ z ∷ [])) [
      | true ↦ elim (same x z) as (λ (t : Bool). x ∷ filter keep front ≡ cond (t || true) (x ∷ filter keep front) ((x ∷ filter keep front) ++ z ∷ [])) [ true ↦ refl | false ↦ refl ]
      | false ↦ ap (λ (ys : List A). x ∷ ys) (filter_push keep front z)
          ∙ (elim (same x z) as (λ (t : Bool). x ∷ (filter keep front ++ cond (not t) (z ∷ []) []) ≡ cond (t || false) (x ∷ filter keep front) ((x ∷ filter keep front) ++ z ∷ [])) [
            | true ↦ ap (λ (ys : List A). x ∷ ys) (append-nil (filter keep front))
            | false ↦ refl
          ])
    ])

-- A filter that keeps what passes a test keeps whether any passes.
pub any_filter : {A : Type 0} (p k : A → Bool) → ((y : A) → p y ≡ true → k y ≡ true) → (ys : List A) → list_any p (filter k ys) ≡ list_any p ys
any_filter p k kept [] = refl
any_filter p k kept (y ∷ ys) =
    elim (k y) as (λ (b : Bool). k y ≡ b → list_any p (cond b (y ∷ filter k ys) (filter k ys)) ≡ (p y || list_any p ys)) [
      | true ↦ λ _. ap (λ (b : Bool). p y || b) (any_filter p k kept ys)
      | false ↦ λ e. any_filter p k kept ys ∙ (elim (p y) as (λ (t : Bool). p y ≡ t → list_any p ys ≡ (t || list_any p ys)) [
        | true ↦ λ f. let wrong : true ≡ false = sym (kept y f) ∙ e in absurd cc
        | false ↦ λ _. refl
      ] refl)
    ] refl

-- Whether an element is there is the same with and without repeats.
pub any_distinct : {A : Type 0} (same : A → A → Bool) → ((a b : A) → same a b ≡ true → a ≡ b) → (z : A) (xs : List A) → list_any (λ y. same y z) (distinct same xs) ≡ list_any (λ y. same y z) xs
any_distinct same law z [] = refl
any_distinct {A} same law z (x ∷ xs) =
    elim (same x z) as (λ (t : Bool). same x z ≡ t → (t || list_any (λ y. same y z) (filter (λ y. not (same x y)) (distinct same xs))) ≡ (t || list_any (λ y. same y z) xs)) [
      | true ↦ λ _. refl
      | false ↦ λ e. any_filter (λ y. same y z) (λ y. not (same x y)) (λ y f. let g : y ≡ z = law y z f in rw (g, e) refl) (distinct same xs) ∙ any_distinct same law z xs
    ] refl

-- A turn of a loop that meets an element again.
pub distinct_known : {A : Type 0} (same : A → A → Bool) → ((a b : A) → same a b ≡ true → a ≡ b) → (xs : List A) (i : ℕ) (z : A) → i < length xs → z ≡ get_or xs i z → list_any (λ y. same y z) (distinct same (take i xs)) ≡ true → distinct same (take i xs) ≡ distinct same (take (i + 1) xs)
distinct_known {A} same law xs i z below e h =
    let met : list_any (λ y. same y z) (take i xs) ≡ true = sym (any_distinct same law z (take i xs)) ∙ h in
    sym (ap (distinct same) (take_more xs i z below ∙ ap (λ (y : A). take i xs ++ y ∷ []) (sym e)) ∙ (distinct_push same (take i xs) z ∙ ap (λ (b : Bool). cond b (distinct same (take i xs)) (distinct same (take i xs) ++ z ∷ [])) met))

-- A turn of a loop that meets a new element.
pub distinct_new : {A : Type 0} (same : A → A → Bool) → ((a b : A) → same a b ≡ true → a ≡ b) → (xs : List A) (i : ℕ) (z : A) → i < length xs → z ≡ get_or xs i z → list_any (λ y. same y z) (distinct same (take i xs)) ≡ false → distinct same (take i xs) ++ z ∷ [] ≡ distinct same (take (i + 1) xs)
distinct_new {A} same law xs i z below e h =
    let met : list_any (λ y. same y z) (take i xs) ≡ false = sym (any_distinct same law z (take i xs)) ∙ h in
    sym (ap (distinct same) (take_more xs i z below ∙ ap (λ (y : A). take i xs ++ y ∷ []) (sym e)) ∙ (distinct_push same (take i xs) z ∙ ap (λ (b : Bool). cond b (distinct same (take i xs)) (distinct same (take i xs) ++ z ∷ [])) met))

-- A read within a list does not depend on the value past its end.
pub same_read : {A : Type 0} (xs : List A) (i : ℕ) (d e : A) → i < length xs → get_or xs i d ≡ get_or xs i e
same_read [] i d e below = absurd (omega arith)
same_read (x ∷ xs) zero d e below = refl
same_read (x ∷ xs) (suc i) d e below = same_read xs i d e (omega arith)

-- Places that are the same are equal.
pub same_place : (a b : ℕ) → (a == b) ≡ true → a ≡ b
same_place a b h = grind (arith, nat_tests)
