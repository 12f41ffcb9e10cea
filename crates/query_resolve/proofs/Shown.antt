-- What a row shows for a set function: its value over the members of the group.
use Rattle.std.proofs.Common.{◌≡◌, ◌∙◌, ◌<◌, ◌+◌, ◌||◌, ℕ, zero, suc, Bool, true, false, cond, not, nat_lt, List, [], ◌∷◌, length, map, Option, Some, None, refl, sym, ap, subst, arith, one-add, lt-ltb, le-ltb, ltb-true, ltb-false}
use Rattle.std.specs.Prelude.{position, slice_get, unwrap_or, filter_map}
use Rattle.std.specs.Option.{option_and_then, option_map_or}
use Rattle.std.specs.List.{Contains, cons_option, list_any, position_or_len, slice_index_or}
use Rattle.semantics.specs.Aggregates.{CellValue, agg, plain}
use Rattle.semantics.specs.Columns.{Field}
use Rattle.semantics.specs.ResultRows.{aggregate_function, aggregate_functions}
use Rattle.semantics.specs.Groups.{Key, Record}
use Rattle.semantics.specs.Inside.Same.{same_planned}
use Rattle.semantics.specs.Names.{PlannedFunction, planned_function}
use Rattle.semantics.specs.Lists.{distinct}
use Rattle.semantics.specs.Rows.{expression_value}
use Rattle.semantics.specs.SetFunctions.{functions_of, set_functions}
use Rattle.semantics.specs.Syntax.{SetFunction, Query, function}
use Rattle.semantics.specs.Values.{null}
use Rattle.query_resolve.proofs.Distinct.{any_distinct}
use Rattle.query_resolve.proofs.Rows.{or_true}
use Rattle.query_resolve.proofs.SameTrees.{planned_are_same, same_planned-Decides}

-- What stands at the place of the first element that passes a test.
abbrev at_first : {A B : Type 0} → (A → Bool) → (A → B) → List A → Option B
at_first test F xs = option_and_then (slice_get (map F xs)) (position test xs)

both_more : (m n : ℕ) → nat_lt (suc m) (suc n) ≡ nat_lt m n
both_more m n =
    elim (nat_lt m n) as (λ (b : Bool). nat_lt m n ≡ b → nat_lt (suc m) (suc n) ≡ b) [
      | true ↦ λ e. let below = ltb-true m n e in lt-ltb (suc m) (suc n) (omega (arith, below))
      | false ↦ λ e. let above = ltb-false m n e in le-ltb (suc m) (suc n) (omega (arith, above))
    ] refl

-- Behind an element that fails, it is what stands there in the rest.
pub at_first_more : {A B : Type 0} (test : A → Bool) (F : A → B) (x : A) (xs : List A) (d : B)
    → unwrap_or (option_and_then (slice_get (map F (x ∷ xs))) (cond (nat_lt (1 + position_or_len test xs) (length (x ∷ xs))) (Some (1 + position_or_len test xs)) None)) d
    ≡ unwrap_or (at_first test F xs) d
at_first_more {A} {B} test F x xs d =
    let n : ℕ = position_or_len test xs in
    ap (λ (m : ℕ). unwrap_or (option_and_then (slice_get (map F (x ∷ xs))) (cond (nat_lt m (length (x ∷ xs))) (Some m) None)) d) (one-add n)
    ∙ ap (λ (b : Bool). unwrap_or (option_and_then (slice_get (map F (x ∷ xs))) (cond b (Some (suc n)) None)) d) (both_more n (length xs))
    ∙ (elim (nat_lt n (length xs)) as (λ (b : Bool). unwrap_or (option_and_then (slice_get (map F (x ∷ xs))) (cond b (Some (suc n)) None)) d
    ≡ unwrap_or (option_and_then (slice_get (map F xs)) (cond b (Some n) None)) d) [ true ↦ refl | false ↦ refl ])

pub first_value : {A B : Type 0} (test : A → Bool) (F : A → B) (v d : B) → ((x : A) → test x ≡ true → F x ≡ v) → (xs : List A) → list_any test xs ≡ true → unwrap_or (at_first test F xs) d ≡ v
first_value test F v d same [] h = absurd cc
first_value {A} {B} test F v d same (x ∷ xs) h =
    elim (test x) as (λ (t : Bool). test x ≡ t → (t || list_any test xs) ≡ true
    → unwrap_or (option_and_then (slice_get (map F (x ∷ xs))) (cond (nat_lt (cond (not t) (1 + position_or_len test xs) 0) (length (x ∷ xs))) (Some (cond (not t) (1 + position_or_len test xs) 0)) None)) d ≡ v) [
      | true ↦ λ e _. ap (λ (b : Bool). unwrap_or (option_and_then (slice_get (map F (x ∷ xs))) (cond b (Some 0) None)) d) (lt-ltb 0 (length (x ∷ xs)) (omega arith)) ∙ same x e
      | false ↦ λ e k. at_first_more test F x xs d ∙ first_value test F v d same xs k
    ] refl h

-- A set function that the query has is among the different ones.
pub planned_there : (fields : List Field) (f : SetFunction) (p : PlannedFunction) → planned_function fields f ≡ Some p → (fs : List SetFunction) (k : ℕ) → k < length fs → slice_index_or fs k f ≡ f
    → list_any (λ y. same_planned y p) (filter_map (planned_function fields) fs) ≡ true
planned_there fields f p is [] k below there = absurd (omega arith)
planned_there fields f p is (g ∷ fs) zero below there =
    let rest : List PlannedFunction = filter_map (planned_function fields) fs in
    let itself : same_planned p p ≡ true = (same_planned-Decides p p).1 refl in
    subst (λ (o : Option PlannedFunction). list_any (λ y. same_planned y p) (cons_option o rest) ≡ true) (sym (ap (planned_function fields) there ∙ is)) (ap (λ (b : Bool). b || list_any (λ y. same_planned y p) rest) itself)
planned_there fields f p is (g ∷ fs) (suc k) below there =
    let rest : List PlannedFunction = filter_map (planned_function fields) fs in
    let more : list_any (λ y. same_planned y p) rest ≡ true = planned_there fields f p is fs k (omega (arith, below)) there in
    elim (planned_function fields g) as (λ (o : Option PlannedFunction). list_any (λ y. same_planned y p) (cons_option o rest) ≡ true) [
      | Some q ↦ ap (λ (b : Bool). same_planned q p || b) more ∙ or_true (same_planned q p)
      | None ↦ more
    ]

pub map_twice : {A B C : Type 0} (F : B → C) (G : A → B) (xs : List A) → map F (map G xs) ≡ map (λ x. F (G x)) xs
map_twice F G [] = refl
map_twice F G (x ∷ xs) = ap (λ (ys : List _). F (G x) ∷ ys) (map_twice F G xs)

-- Two tests that agree find the same.
pub any_agree : {A : Type 0} (p q : A → Bool) → ((x : A) → p x ≡ q x) → (xs : List A) → list_any p xs ≡ list_any q xs
any_agree p q same [] = refl
any_agree p q same (x ∷ xs) = ap (λ (b : Bool). b || list_any p xs) (same x) ∙ ap (λ (b : Bool). q x || b) (any_agree p q same xs)

same_turned : (a b : PlannedFunction) → same_planned a b ≡ same_planned b a
same_turned a b =
    elim (same_planned a b) as (λ (t : Bool). same_planned a b ≡ t → t ≡ same_planned b a) [
      | true ↦ λ e. sym ((same_planned-Decides b a).1 (sym (planned_are_same a b e)))
      | false ↦ λ e. elim (same_planned b a) as (λ (u : Bool). same_planned b a ≡ u → false ≡ u) [
        | true ↦ λ d. sym e ∙ (same_planned-Decides a b).1 (sym (planned_are_same b a d))
        | false ↦ λ d. refl
      ] refl
    ] refl

-- The value that a row of a group shows for a set function of the query is the value of that
-- function over the members of the group.
pub shown_value : (fields : List Field) (t : Query) (set : List ℕ) (key : Key) (rows : List Record) (f : SetFunction) → Contains (set_functions t) f
    → expression_value fields t set key (map (λ g. agg g rows) (aggregate_functions fields t)) (function f)
    ≡ option_map_or (λ p. agg (aggregate_function fields p) rows) (planned_function fields f) (plain null)
shown_value fields t set key rows f there =
    let all : List PlannedFunction = functions_of fields t in
    let F : PlannedFunction → CellValue = λ p. agg (aggregate_function fields p) rows in
    elim (planned_function fields f) as (λ (o : Option PlannedFunction). planned_function fields f ≡ o
    → unwrap_or (option_and_then (slice_get (map (λ g. agg g rows) (aggregate_functions fields t))) (option_and_then (λ p. position (same_planned p) all) o)) (plain null) ≡ option_map_or F o (plain null)) [
      | None ↦ λ _. refl
      | Some p ↦ λ e.
          ap (λ (cells : List CellValue). unwrap_or (option_and_then (slice_get cells) (position (same_planned p) all)) (plain null)) (map_twice (λ g. agg g rows) (aggregate_function fields) all)
          ∙ first_value (same_planned p) F (F p) (plain null) (λ q h. ap F (sym (planned_are_same p q h))) all
          (any_agree (same_planned p) (λ y. same_planned y p) (λ y. same_turned p y) all
          ∙ any_distinct same_planned planned_are_same p (filter_map (planned_function fields) (set_functions t))
          ∙ planned_there fields f p e (set_functions t) there.0 there.1 there.2)
    ] refl
