-- Grouping sets without those that have the same columns as an earlier one.
use Rattle.std.proofs.Common.{◌≡◌, ◌∙◌, ◌+◌, ◌<◌, ◌==◌, ◌||◌, ◌&&◌, ℕ, Bool, true, false, cond, not, List, [], ◌∷◌, ◌++◌, length, map, take, get_or, refl, sym, ap, subst}
use Rattle.std.specs.Prelude.{filter, if◌then◌else◌}
use Rattle.std.specs.Global.{Vec}
use Rattle.std.specs.List.{list_all, list_any}
use Rattle.std.specs.Str.{bytes_eq}
use Rattle.std.proofs.lemmas.List.{map-append, take_more}
use Rattle.std.proofs.lemmas.Slice.Eq.{bytes_eq-Decides}
use Rattle.semantics.specs.Columns.{Field}
use Rattle.semantics.specs.Syntax.{Query}
use Rattle.semantics.specs.Names.{places_of}
use Rattle.semantics.specs.Lists.{distinct}
use Rattle.query_resolve.specs.Resolution.{contents}
use Rattle.semantics.specs.Sets.{expansion, expanded_sets, grouping_places, ordered_set, same_columns, sets_of}
use Rattle.query_resolve.proofs.Distinct.{any_distinct, distinct_push, same_place}
use Rattle.query_resolve.proofs.Products.{has, has_first, has_ordered, same_filter}
use Rattle.query_resolve.proofs.Rows.{or_true}

-- ---- two sets

-- Tests are equal where each holds if the other does.
pub both_ways : (a b : Bool) → (a ≡ true → b ≡ true) → (b ≡ true → a ≡ true) → a ≡ b
both_ways true b f g = sym (f refl)
both_ways false true f g = g refl
both_ways false false f g = refl

-- Both parts of a test hold.
both_true : (a b : Bool) → (a && b) ≡ true → (a ≡ true) × (b ≡ true)
both_true true b e = (refl, e)
both_true false b e = absurd cc

-- What is in a list is in another one, where all of the list are.
among_is : (a b : List ℕ) → list_all (λ c. has c b) a ≡ true → (c : ℕ) → has c a ≡ true → has c b ≡ true
among_is [] b all c h = absurd cc
among_is (x ∷ a) b all c h =
    let parts = both_true (has x b) (list_all (λ c. has c b) a) all in
    elim (x == c) as (λ (t : Bool). (x == c) ≡ t → (t || has c a) ≡ true → has c b ≡ true) [
      | true ↦ λ e _. subst (λ (y : ℕ). has y b ≡ true) (same_place x c e) parts.0
      | false ↦ λ _ k. among_is a b parts.1 c k
    ] refl h

is_among : (a b : List ℕ) → ((c : ℕ) → has c a ≡ true → has c b ≡ true) → list_all (λ c. has c b) a ≡ true
is_among [] b all = refl
is_among (x ∷ a) b all =
    ap (λ (t : Bool). t && list_all (λ c. has c b) a) (all x (has_first x a))
    ∙ is_among a b (λ c h. all c (ap (λ (t : Bool). (x == c) || t) h ∙ or_true (x == c)))

-- Sets have the same columns where each column is in both or in none.
pub has_same : (a b : List ℕ) → same_columns a b ≡ true → (c : ℕ) → has c a ≡ has c b
has_same a b same c =
    let parts = both_true (list_all (λ c. has c b) a) (list_all (λ c. has c a) b) same in
    both_ways (has c a) (has c b) (among_is a b parts.0 c) (among_is b a parts.1 c)

pub same_has : (a b : List ℕ) → ((c : ℕ) → has c a ≡ has c b) → same_columns a b ≡ true
same_has a b same =
    ap (λ (t : Bool). t && list_all (λ c. has c a) b) (is_among a b (λ c h. sym (same c) ∙ h))
    ∙ is_among b a (λ c h. same c ∙ h)

-- A set that is in the order of the grouping columns stays as it is.
ordered_twice : (grouping x : List ℕ) → ordered_set grouping (ordered_set grouping x) ≡ ordered_set grouping x
ordered_twice grouping x = same_filter _ _ grouping (λ c there. has_ordered grouping x c there)

-- In that order two sets with the same columns are one list.
same_ordered : (grouping x y : List ℕ) → same_columns (ordered_set grouping x) (ordered_set grouping y) ≡ true → ordered_set grouping x ≡ ordered_set grouping y
same_ordered grouping x y same =
    sym (ordered_twice grouping x)
    ∙ same_filter _ _ grouping (λ c _. has_same (ordered_set grouping x) (ordered_set grouping y) same c)
    ∙ ordered_twice grouping y

same_bytes : (a b : List ℕ) → bytes_eq a b ≡ true → a ≡ b
same_bytes a b e = (bytes_eq-Decides a b).0 e

equal_bytes : (a b : List ℕ) → a ≡ b → bytes_eq a b ≡ true
equal_bytes a b e = (bytes_eq-Decides a b).1 e

-- So the lists are compared in place of the sets.
equal_ordered : (grouping x y : List ℕ) → bytes_eq (ordered_set grouping x) (ordered_set grouping y) ≡ same_columns (ordered_set grouping x) (ordered_set grouping y)
equal_ordered grouping x y =
    let a = ordered_set grouping x in
    let b = ordered_set grouping y in
    both_ways (bytes_eq a b) (same_columns a b)
    (λ e. same_has a b (λ c. ap (has c) (same_bytes a b e)))
    (λ e. equal_bytes a b (same_ordered grouping x y e))

-- ---- lists without repeats

filter_of_map : {X Y : Type 0} (k : Y → Bool) (f : X → Y) (xs : List X) → filter k (map f xs) ≡ map f (filter (λ x. k (f x)) xs)
filter_of_map k f [] = refl
filter_of_map {X} {Y} k f (x ∷ xs) =
    let rest : List X = filter (λ y. k (f y)) xs in
    ap (λ (ys : List Y). cond (k (f x)) (f x ∷ ys) ys) (filter_of_map k f xs)
    ∙ (elim (k (f x)) as (λ (t : Bool). cond t (f x ∷ map f rest) (map f rest) ≡ map f (cond t (x ∷ rest) rest)) [ true ↦ refl | false ↦ refl ])

distinct_of_map : {X Y : Type 0} (same : Y → Y → Bool) (f : X → Y) (xs : List X) → distinct same (map f xs) ≡ map f (distinct (λ a b. same (f a) (f b)) xs)
distinct_of_map same f [] = refl
distinct_of_map {X} {Y} same f (x ∷ xs) =
    ap (λ (ys : List Y). f x ∷ filter (λ y. not (same (f x) y)) ys) (distinct_of_map same f xs)
    ∙ ap (λ (ys : List Y). f x ∷ ys) (filter_of_map (λ y. not (same (f x) y)) f (distinct (λ a b. same (f a) (f b)) xs))

-- Of what a function gives it is the same by which of two tests repeats are found that agree there.
distinct_agrees : {X Y : Type 0} (same other : Y → Y → Bool) (f : X → Y) → ((a b : X) → same (f a) (f b) ≡ other (f a) (f b)) → (xs : List X) → distinct same (map f xs) ≡ distinct other (map f xs)
distinct_agrees same other f agree xs =
    distinct_of_map same f xs
    ∙ (λ i. map f (distinct (λ a b. agree a b i) xs))
    ∙ sym (distinct_of_map other f xs)

-- Of sets in the order of the grouping columns the lists without repeats are the sets without
-- repeats.
sets_without_repeats : {X : Type 0} (grouping : List ℕ) (places : X → List ℕ) (xs : List X)
    → distinct bytes_eq (map (λ x. ordered_set grouping (places x)) xs) ≡ distinct same_columns (map (λ x. ordered_set grouping (places x)) xs)
sets_without_repeats grouping places xs = distinct_agrees bytes_eq same_columns (λ x. ordered_set grouping (places x)) (λ a b. equal_ordered grouping (places a) (places b)) xs

-- So it is where repeats are dropped or kept.
pub kept_sets : {X : Type 0} (drop : Bool) (grouping : List ℕ) (places : X → List ℕ) (xs : List X) (all : List (List ℕ)) → all ≡ map (λ x. ordered_set grouping (places x)) xs
    → (if drop then distinct bytes_eq all else all)
    ≡ (if drop then distinct same_columns (map (λ x. ordered_set grouping (places x)) xs) else map (λ x. ordered_set grouping (places x)) xs)
kept_sets true grouping places xs all is = ap (distinct bytes_eq) is ∙ sets_without_repeats grouping places xs
kept_sets false grouping places xs all is = is

-- ---- the sets of a query

-- A set of these names.
abbrev pub set_of_names : List Field → Query → List (List ℕ) → List ℕ
set_of_names fields t names = ordered_set (grouping_places fields t) (places_of fields names)

-- The expanded sets that a query keeps, as their names are written.
abbrev pub names_kept : List Field → Query → List (List (List ℕ))
names_kept fields t = if t.distinct_sets then distinct (λ a b. same_columns (set_of_names fields t a) (set_of_names fields t b)) (expansion t.groups) else expansion t.groups

-- Each grouping set of a query is that of some names.
pub sets_by_names : (fields : List Field) (t : Query) → sets_of fields t ≡ map (set_of_names fields t) (names_kept fields t)
sets_by_names fields t =
    elim t.distinct_sets as (λ (d : Bool). (if d then distinct same_columns (expanded_sets fields t) else expanded_sets fields t)
    ≡ map (set_of_names fields t) (if d then distinct (λ a b. same_columns (set_of_names fields t a) (set_of_names fields t b)) (expansion t.groups) else expansion t.groups)) [
      | true ↦ distinct_of_map same_columns (set_of_names fields t) (expansion t.groups)
      | false ↦ refl
    ]

-- ---- a turn of the loop

-- Whether a list is among those of some sets.
any_contents : (sets : List (Vec ℕ)) (z : List ℕ) → list_any (λ (s : Vec ℕ). bytes_eq s.items z) sets ≡ list_any (λ y. bytes_eq y z) (contents sets)
any_contents [] z = refl
any_contents (s ∷ sets) z = ap (λ (t : Bool). bytes_eq s.items z || t) (any_contents sets z)

-- The first sets, and the next one behind them.
grown : (sets : List (Vec ℕ)) (i : ℕ) (s : Vec ℕ) → i < length sets → s ≡ get_or sets i s → contents (take (i + 1) sets) ≡ contents (take i sets) ++ s.items ∷ []
grown sets i s below e =
    ap contents (take_more sets i s below ∙ ap (λ (u : Vec ℕ). take i sets ++ u ∷ []) (sym e))
    ∙ map-append (λ (u : Vec ℕ). u.items) (take i sets) (s ∷ [])

-- The next set is added where it is not among those that are kept.
pub repeats_turn : (sets found : List (Vec ℕ)) (i : ℕ) (s : Vec ℕ) (met : Bool) → i < length sets → s ≡ get_or sets i s → contents found ≡ distinct bytes_eq (contents (take i sets))
    → met ≡ list_any (λ (u : Vec ℕ). bytes_eq u.items s.items) found
    → cond met (contents found) (contents found ++ s.items ∷ []) ≡ distinct bytes_eq (contents (take (i + 1) sets))
repeats_turn sets found i s met below e so_far told =
    let front = contents (take i sets) in
    let before = distinct bytes_eq front in
    let is_met : met ≡ list_any (λ y. bytes_eq y s.items) front =
    told ∙ any_contents found s.items ∙ ap (list_any (λ y. bytes_eq y s.items)) so_far ∙ any_distinct bytes_eq same_bytes s.items front in
    ap (λ (ys : List (List ℕ)). cond met ys (ys ++ s.items ∷ [])) so_far
    ∙ ap (λ (t : Bool). cond t before (before ++ s.items ∷ [])) is_met
    ∙ sym (ap (distinct bytes_eq) (grown sets i s below e) ∙ distinct_push bytes_eq front s.items)
