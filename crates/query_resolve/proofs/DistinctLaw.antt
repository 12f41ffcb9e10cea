-- What a list without repeats keeps, and so GROUP BY DISTINCT of an expanded list of grouping sets.
use Rattle.std.proofs.Common.{◌≡◌, ◌∙◌, ◌<◌, ◌==◌, ◌||◌, ℕ, zero, suc, Bool, true, false, cond, not, List, [], ◌∷◌, length, refl, sym, ap, subst, arith, AllPairs}
use Rattle.std.specs.Prelude.{Decides, filter, if◌then◌else◌}
use Rattle.std.specs.List.{Contains, list_any, slice_index_or}
use Rattle.std.proofs.lemmas.List.Elements.{filter_passes}
use Rattle.std.proofs.lemmas.List.Kept.{AllPairs-cons, AllPairs-filter}
use Rattle.semantics.specs.Columns.{Field}
use Rattle.semantics.specs.Syntax.{Query}
use Rattle.semantics.specs.Lists.{distinct}
use Rattle.query_resolve.specs.Laws.{AreDistinct, HaveSameColumns, KeepsFirst}
use Rattle.semantics.specs.Sets.{expanded_sets, same_columns, sets_of}
use Rattle.query_resolve.proofs.Distinct.{any_filter, same_place}
use Rattle.query_resolve.proofs.DistinctSets.{both_ways, has_same, same_has}
use Rattle.query_resolve.proofs.Products.{has, has_first}
use Rattle.query_resolve.proofs.Rows.{or_true}

-- ---- what is in a list

contains_more : {A : Type 0} (x y : A) (xs : List A) → Contains xs y → Contains (x ∷ xs) y
contains_more x y xs there = (suc there.0, omega (arith, there.1), there.2)

-- An element that passes a test, where one does.
any_met : {A : Type 0} (p : A → Bool) (xs : List A) → list_any p xs ≡ true → (x : A) × Contains xs x × (p x ≡ true)
any_met p [] h = absurd cc
any_met {A} p (x ∷ xs) h =
    elim (p x) as (λ (t : Bool). p x ≡ t → (t || list_any p xs) ≡ true → (y : A) × Contains (x ∷ xs) y × (p y ≡ true)) [
      | true ↦ λ e _. (x, (0, omega arith, refl), e)
      | false ↦ λ _ k. let met = any_met p xs k in (met.0, contains_more x met.0 xs met.1, met.2)
    ] refl h

neither : (a b : Bool) → (a || b) ≡ false → (a ≡ false) × (b ≡ false)
neither true b h = absurd cc
neither false b h = (refl, h)

-- Where none passes, each element fails.
none_met : {A : Type 0} (p : A → Bool) (xs : List A) (x : A) (k : ℕ) → k < length xs → slice_index_or xs k x ≡ x → list_any p xs ≡ false → p x ≡ false
none_met p [] x k below is h = absurd (omega arith)
none_met {A} p (y ∷ xs) x zero below is h = subst (λ (z : A). p z ≡ false) is (neither (p y) (list_any p xs) h).0
none_met p (y ∷ xs) x (suc k) below is h = none_met p xs x k (omega (arith, below)) is (neither (p y) (list_any p xs) h).1

-- A place is in a list exactly where the list contains it.
has_contained : (a : List ℕ) (c k : ℕ) → k < length a → slice_index_or a k c ≡ c → has c a ≡ true
has_contained [] c k below is = absurd (omega arith)
has_contained (x ∷ a) c zero below is = subst (λ (y : ℕ). has y (x ∷ a) ≡ true) is (has_first x a)
has_contained (x ∷ a) c (suc k) below is = ap (λ (t : Bool). (x == c) || t) (has_contained a c k (omega (arith, below)) is) ∙ or_true (x == c)

contained_has : (a : List ℕ) (c : ℕ) → has c a ≡ true → Contains a c
contained_has a c h =
    let met = any_met (λ p. p == c) a h in
    subst (λ (y : ℕ). Contains a y) (same_place met.0 c met.2) met.1

-- ---- sets with the same columns

columns_same : (a b : List ℕ) → same_columns a b ≡ true → HaveSameColumns a b
columns_same a b e = λ c. (
  (λ there. contained_has b c (sym (has_same a b e c) ∙ has_contained a c there.0 there.1 there.2)),
  (λ there. contained_has a c (has_same a b e c ∙ has_contained b c there.0 there.1 there.2)),
)

same_from_columns : (a b : List ℕ) → HaveSameColumns a b → same_columns a b ≡ true
same_from_columns a b same = same_has a b (λ c. both_ways (has c a) (has c b)
    (λ h. let there = (same c).0 (contained_has a c h) in has_contained b c there.0 there.1 there.2)
    (λ h. let there = (same c).1 (contained_has b c h) in has_contained a c there.0 there.1 there.2))

columns_itself : (a : List ℕ) → same_columns a a ≡ true
columns_itself a = same_has a a (λ c. refl)

columns_joined : (a b c : List ℕ) → same_columns a b ≡ true → same_columns b c ≡ true → same_columns a c ≡ true
columns_joined a b c e f = same_has a c (λ x. has_same a b e x ∙ has_same b c f x)

false_not_true : (b : Bool) → b ≡ false → b ≡ true → ⊥
false_not_true b e f = let wrong : true ≡ false = sym f ∙ e in absurd cc

-- ---- what is kept

-- An element is the same as none of those before it.
abbrev is_fresh : {A : Type 0} → (A → A → Bool) → List A → A → Bool
is_fresh same before x = not (list_any (λ earlier. same earlier x) before)

fresh_twice : {A : Type 0} (same : A → A → Bool) (before : List A) (x : A) (ys : List A) → filter (is_fresh same before) (filter (λ y. not (same x y)) ys) ≡ filter (is_fresh same (x ∷ before)) ys
fresh_twice same before x [] = refl
fresh_twice {A} same before x (y ∷ ys) =
    let left : List A = filter (λ z. not (same x z)) ys in
    let right : List A = filter (is_fresh same (x ∷ before)) ys in
    let met : Bool = list_any (λ earlier. same earlier y) before in
    elim (same x y) as (λ (t : Bool). filter (is_fresh same before) (cond (not t) (y ∷ left) left) ≡ cond (not (t || met)) (y ∷ right) right) [
      | true ↦ fresh_twice same before x ys
      | false ↦ ap (λ (zs : List A). cond (not met) (y ∷ zs) zs) (fresh_twice same before x ys)
    ]

all_fresh : {A : Type 0} (same : A → A → Bool) (ys : List A) → filter (is_fresh same []) ys ≡ ys
all_fresh same [] = refl
all_fresh {A} same (y ∷ ys) = ap (λ (zs : List A). y ∷ zs) (all_fresh same ys)

module _ {A : Type 0} (same : A → A → Bool) (Same : A → A → Type 0) (decides : (a b : A) → Decides (same a b) (Same a b)) where
  keeps_first : (before xs : List A) → KeepsFirst Same before xs (filter (is_fresh same before) (distinct same xs))
  keeps_first before [] = KeepsFirst.none
  keeps_first before (x ∷ xs) =
      let others : List A = filter (is_fresh same (x ∷ before)) (distinct same xs) in
      let all : List A = filter (is_fresh same before) (filter (λ y. not (same x y)) (distinct same xs)) in
      let behind : KeepsFirst Same (x ∷ before) xs others = keeps_first (x ∷ before) xs in
      let is : all ≡ others = fresh_twice same before x (distinct same xs) in
      let met : Bool = list_any (λ earlier. same earlier x) before in
      subst (λ (zs : List A). KeepsFirst Same before (x ∷ xs) (cond (not met) (x ∷ zs) zs)) (sym is)
      (elim met as (λ (t : Bool). met ≡ t → KeepsFirst Same before (x ∷ xs) (cond (not t) (x ∷ others) others)) [
        | true ↦ λ e. (let one = any_met (λ earlier. same earlier x) before e in
            KeepsFirst.dropped one.0 one.1 ((decides one.0 x).0 one.2) behind)
        | false ↦ λ e. KeepsFirst.kept (λ earlier there h. false_not_true (same earlier x)
            (none_met (λ y. same y x) before earlier there.0 there.1 there.2 e) ((decides earlier x).1 h)) behind
      ] refl)

  apart_kept : (xs : List A) → AllPairs (λ x y. Same x y → ⊥) (distinct same xs)
  apart_kept [] = λ i j d below within. absurd (omega (arith, within))
  apart_kept (x ∷ xs) =
      let others : List A = distinct same xs in
      let differs : A → Bool = λ y. not (same x y) in
      AllPairs-cons (λ x y. Same x y → ⊥) x (filter differs others)
      (λ k d below h. false_not_true (differs (slice_index_or (filter differs others) k d))
      (ap not ((decides x (slice_index_or (filter differs others) k d)).1 h)) (filter_passes differs others k d below))
      (AllPairs-filter (λ x y. Same x y → ⊥) differs others (apart_kept xs))

-- What differs from an element that is the same as a third differs from the third.
stays : {A : Type 0} (same : A → A → Bool) → ((a b c : A) → same a b ≡ true → same b c ≡ true → same a c ≡ true) → (x y z : A) → same x z ≡ false → same y z ≡ true → not (same x y) ≡ true
stays same joined x y z e f =
    elim (same x y) as (λ (t : Bool). same x y ≡ t → not t ≡ true) [
      | true ↦ λ g. absurd (false_not_true (same x z) e (joined x y z g f))
      | false ↦ λ _. refl
    ] refl

-- Each element is the same as one that is kept.
any_kept : {A : Type 0} (same : A → A → Bool) → ((a : A) → same a a ≡ true) → ((a b c : A) → same a b ≡ true → same b c ≡ true → same a c ≡ true)
    → (xs : List A) (k : ℕ) (d : A) → k < length xs → list_any (λ y. same y (slice_index_or xs k d)) (distinct same xs) ≡ true
any_kept same itself joined [] k d below = absurd (omega (arith, below))
any_kept same itself joined (x ∷ xs) zero d below = ap (λ (t : Bool). t || list_any (λ y. same y x) (filter (λ y. not (same x y)) (distinct same xs))) (itself x)
any_kept {A} same itself joined (x ∷ xs) (suc k) d below =
    let z : A = slice_index_or xs k d in
    let others : List A = distinct same xs in
    let differs : A → Bool = λ y. not (same x y) in
    elim (same x z) as (λ (t : Bool). same x z ≡ t → (t || list_any (λ y. same y z) (filter differs others)) ≡ true) [
      | true ↦ λ _. refl
      | false ↦ λ e. any_filter (λ y. same y z) differs (λ y f. stays same joined x y z e f) others ∙ any_kept same itself joined xs k d (omega (arith, below))
    ] refl

-- The list without repeats keeps the first of those that are the same.
pub distinct_are : {A : Type 0} (same : A → A → Bool) (Same : A → A → Type 0) → ((a b : A) → Decides (same a b) (Same a b)) → ((a : A) → same a a ≡ true)
    → ((a b c : A) → same a b ≡ true → same b c ≡ true → same a c ≡ true) → (xs : List A) → AreDistinct Same xs (distinct same xs)
distinct_are {A} same Same decides itself joined xs = record {
  first = subst (λ (ys : List A). KeepsFirst Same [] xs ys) (all_fresh same (distinct same xs)) (keeps_first same Same decides [] xs);
  apart = apart_kept same Same decides xs;
  whole = λ k d below. (let one = any_met (λ y. same y (slice_index_or xs k d)) (distinct same xs) (any_kept same itself joined xs k d below) in
      (one.0, one.1, (decides one.0 (slice_index_or xs k d)).0 one.2));
}

-- So it does by the test itself.
pub distinct_keeps : {A : Type 0} (same : A → A → Bool) → ((a : A) → same a a ≡ true) → ((a b c : A) → same a b ≡ true → same b c ≡ true → same a c ≡ true)
    → (xs : List A) → AreDistinct (λ a b. same a b ≡ true) xs (distinct same xs)
distinct_keeps same itself joined xs = distinct_are same (λ a b. same a b ≡ true) (λ a b. (λ h. h, λ h. h)) itself joined xs

-- ---- GROUP BY DISTINCT

-- Sets that have the columns of an earlier one are dropped.
sets_are : (xs : List (List ℕ)) → AreDistinct HaveSameColumns xs (distinct same_columns xs)
sets_are xs = distinct_are same_columns HaveSameColumns (λ a b. (columns_same a b, same_from_columns a b)) columns_itself columns_joined xs

pub distinct_is : (fields : List Field) (t : Query) → t.distinct_sets ≡ true → AreDistinct HaveSameColumns (expanded_sets fields t) (sets_of fields t)
distinct_is fields t written =
    subst (λ (d : Bool). AreDistinct HaveSameColumns (expanded_sets fields t) (if d then distinct same_columns (expanded_sets fields t) else expanded_sets fields t)) (sym written)
    (sets_are (expanded_sets fields t))
