-- Tables of grouping sets, rolled out of one another.
use Rattle.std.proofs.Common.{◌≡◌, ◌≢◌, ◌==◌, ◌<◌, ◌+◌, ◌-◌, ◌^◌, ℕ, zero, suc, IfOk, IfSome, Result, Ok, Err, Option, None, Some, take, Bool, true, false, ◌||◌, not, eqb, List, [], ◌∷◌, ◌++◌, All, Vec, Global, length, map, slice_index_or, get_or, refl, sym, ap, ap₂, subst, ◌∙◌, arith, append_assoc}
use Rattle.std.proofs.lemmas.List.{get_or-map, get_or_read, length-map, map_push}
use Rattle.std.proofs.lemmas.List.Elements.{All-from_recursion, All-head, All-weaker, recursion_from_All}
use Rattle.std.proofs.lemmas.List.Sorted.{IsPermutation-append_right, IsPermutation-middle, IsPermutation-trans}
use Rattle.std.proofs.lemmas.Option.{IfSome_then, same_Some}
use Rattle.std.specs.List.{AllByRecursion, Any, list_any}
use Rattle.std.specs.List.Sorted.{IsPermutation}
use Rattle.std.specs.Option.{option_eq}
use Rattle.std.specs.Result.{result_ok}
use Rattle.group_tables.specs.Functions.{aggregates_of}
use Rattle.semantics.specs.Names.{places_of}
use Rattle.query_resolve.specs.Resolution.{contents}
use Rattle.semantics.specs.Sets.{grouping_places, sets_of}
use Rattle.query_resolve.proofs.DistinctSets.{names_kept, set_of_names, sets_by_names}
use Rattle.group_tables.specs.declared.group.Group.{Group}
use Rattle.group_tables.specs.Rolled.{AreAmong}
use Rattle.group_tables.specs.Table.{AreGroupsOfTable, Contents, IsRollOf, KeepsCount}
use Rattle.group_tables.specs.Typed.{HaveTypesOfTable, KeepsTypes}
use Rattle.query_resolve.specs.declared.function.FilteredFunction.{FilteredFunction}
use Rattle.tables.specs.declared.roll.Roll.{Roll}
use Rattle.tables.specs.declared.roll.SetTable.{SetTable}
use Rattle.tables.specs.Inside.Properties.{AreGroupsWith, HasProperty, Property, of_at_most, of_records, of_types}
use Rattle.tables.specs.Inside.SetTables.{AreRolled}
use Rattle.tables.specs.Inside.SetTables.{HasFiner, ListedSet, NoneHasIndex, StandsAtIndex, listed_roll, listed_table, sets_of_rolls, sets_of_tables}
use Rattle.tables.proofs.Bags.{all-everywhere, all-filter, all-map}
use Rattle.query_plan.specs.Planned.{PlannedQuery}

-- ---- columns that are among others

there : (n : ℕ) → (n == n) ≡ true
there n = grind arith

or-true : (b : Bool) → (b || true) ≡ true
or-true true = refl
or-true false = refl

one-among : (front rest : List ℕ) (place : ℕ) → list_any (λ p. p == place) (front ++ place ∷ rest) ≡ true
one-among [] rest place = ap (λ b. b || list_any (λ p. p == place) rest) (there place)
one-among (x ∷ front) rest place = ap (λ b. (x == place) || b) (one-among front rest place) ∙ or-true (x == place)

rest-among : (front rest : List ℕ) → AllByRecursion (λ place. list_any (λ p. p == place) (front ++ rest) ≡ true) rest
rest-among front [] = tt
rest-among front (place ∷ rest) = (
  one-among front rest place,
  subst (λ (all : List ℕ). AllByRecursion (λ p. list_any (λ r. r == p) all ≡ true) rest) (append_assoc front (place ∷ []) rest) (rest-among (front ++ place ∷ []) rest),
)

pub among-self : (set : List ℕ) → AreAmong set set
among-self set = rest-among [] set

-- each grouping set is of grouping columns
pub sets-among : (plan : PlannedQuery) → All (λ set. AreAmong set (grouping_places plan.fields plan.query)) (sets_of plan.fields plan.query)
sets-among plan =
    let grouping = grouping_places plan.fields plan.query in
    All-from_recursion (λ set. AreAmong set grouping) (sets_of plan.fields plan.query)
    (subst (AllByRecursion (λ set. AreAmong set grouping)) (sym (sets_by_names plan.fields plan.query))
    (all-map (λ set. AreAmong set grouping) (set_of_names plan.fields plan.query) (names_kept plan.fields plan.query)
    (all-everywhere (λ names. AreAmong (set_of_names plan.fields plan.query names) grouping) (names_kept plan.fields plan.query)
    (λ names. all-filter (λ place. list_any (λ p. p == place) grouping ≡ true) (λ c. list_any (λ p. p == c) (places_of plan.fields names)) grouping (among-self grouping)))))

-- ---- sets of the code, and their columns

from-contents : (P : List ℕ → Type 0) (sets : List (Vec ℕ Global)) → AllByRecursion P (contents sets) → AllByRecursion (λ (set : Vec ℕ Global). P set.items) sets
from-contents P [] h = tt
from-contents P (set ∷ sets) h = (h.0, from-contents P sets h.1)

pub all-from_contents : (P : List ℕ → Type 0) (sets : List (Vec ℕ Global)) → All P (contents sets) → All (λ (set : Vec ℕ Global). P set.items) sets
all-from_contents P sets h = All-from_recursion (λ (set : Vec ℕ Global). P set.items) sets (from-contents P sets (recursion_from_All P (contents sets) h))

-- ---- parts of lists

firsts : {X : Type 0} (P : X → Type 0) (xs ys : List X) → AllByRecursion P (xs ++ ys) → AllByRecursion P xs
firsts P [] ys h = tt
firsts P (x ∷ xs) ys h = (h.0, firsts P xs ys h.1)

seconds : {X : Type 0} (P : X → Type 0) (xs ys : List X) → AllByRecursion P (xs ++ ys) → AllByRecursion P ys
seconds P [] ys h = h
seconds P (x ∷ xs) ys h = seconds P xs ys h.1

-- what holds of all of two lists holds of all of the first
pub all-first : {X : Type 0} (P : X → Type 0) (xs ys : List X) → All P (xs ++ ys) → All P xs
all-first P xs ys h = All-from_recursion P xs (firsts P xs ys (recursion_from_All P (xs ++ ys) h))

-- and of all of the second
pub all-second : {X : Type 0} (P : X → Type 0) (xs ys : List X) → All P (xs ++ ys) → All P ys
all-second P xs ys h = All-from_recursion P ys (seconds P xs ys (recursion_from_All P (xs ++ ys) h))

-- and of the last one
pub all-last : {X : Type 0} (P : X → Type 0) (xs : List X) (x : X) → All P (xs ++ x ∷ []) → P x
all-last P xs x h = All-head P x [] (all-second P xs (x ∷ []) h)

-- what holds of all things that are made of others
pub all-unmap : {X Y : Type 0} (P : Y → Type 0) (f : X → Y) (xs : List X) → All P (map f xs) → All (λ x. P (f x)) xs
all-unmap P f xs h = λ k d l. subst P (get_or-map f xs k d (f d) l) (h k (f d) (omega (arith, l, length-map xs f)))

-- the front of a list
pub take-front : (n : ℕ) (xs ys : List Roll) → length xs ≡ n → take n (xs ++ ys) ≡ xs
take-front zero [] ys e = refl
take-front zero (x ∷ xs) ys e = absurd (omega (arith, e))
take-front (suc n) [] ys e = absurd (omega (arith, e))
take-front (suc n) (x ∷ xs) ys e = ap (λ rs. x ∷ rs) (take-front n xs ys (omega (arith, e)))

-- ---- what rolling up and finishing keep

kept : (finer set : List ℕ) (functions : List FilteredFunction) (table rolled : Contents) → IsRollOf finer functions table set rolled → KeepsCount functions table rolled
    → KeepsTypes finer functions table set rolled → (property : Property) → HasProperty property finer functions table → HasProperty property set functions rolled
kept finer set functions table rolled records count types (of_records filters rows) h = records filters rows h
kept finer set functions table rolled records count types (of_types fields) h = (h.0, types fields h.0 h.1)
kept finer set functions table rolled records count types (of_at_most most) h = count most h

-- a table that is rolled up, where that was done, has the properties of the one that it is made of
pub roll-kept : {E : Type 0} (finer set : List ℕ) (functions : List FilteredFunction) (table : Contents) (r : Result Contents E)
    → IfOk r (IsRollOf finer functions table set) → IfOk r (KeepsCount functions table) → IfOk r (KeepsTypes finer functions table set)
    → IfOk r (λ rolled. (property : Property) → HasProperty property finer functions table → HasProperty property set functions rolled)
roll-kept finer set functions table (Ok rolled) records count types = kept finer set functions table rolled records count types
roll-kept finer set functions table (Err e) records count types = tt

-- so have the groups of a table
pub groups-kept : (set : List ℕ) (functions : List FilteredFunction) (table : Contents) (groups : List Group) → AreGroupsOfTable table groups → HaveTypesOfTable table groups
    → (property : Property) → HasProperty property set functions table → AreGroupsWith property functions set groups
groups-kept set functions table groups records types (of_records filters rows) h = records set (aggregates_of filters functions) rows h
groups-kept set functions table groups records types (of_types fields) h = types fields set functions h.1
groups-kept set functions table groups records types (of_at_most most) h = tt

-- tables of fewer than 2^63 records, as a property
abbrev pub of_few : Property
of_few = of_at_most (2 ^ 63 - 1)

-- ---- rolls

-- what holds of a value that may not have been made holds where it is kept
pub some-of_ok : {A E : Type 0} (P : A → Type 0) (r : Result A E) → IfOk r P → IfSome (result_ok r) P
some-of_ok P (Ok x) h = h
some-of_ok P (Err e) h = tt

-- rolling changes no set
pub sets-same : (functions : List FilteredFunction) (finer : SetTable) (olds news : List Roll) → length news ≡ length olds → AreRolled functions finer olds news
    → sets_of_rolls news ≡ sets_of_rolls olds
sets-same functions finer [] [] n each = refl
sets-same functions finer [] (new ∷ news) n each = absurd (omega (arith, n))
sets-same functions finer (old ∷ olds) [] n each = absurd (omega (arith, n))
sets-same functions finer (old ∷ olds) (new ∷ news) n each =
    let first = each 0 old (omega arith) in
    let set : new.set.items ≡ old.set.items = first.0 in
    let index : new.index ≡ old.index = first.1 in
    let rest : sets_of_rolls news ≡ sets_of_rolls olds = sets-same functions finer olds news (omega (arith, n)) (λ i d l. each (suc i) d (omega (arith, l))) in
    cc

-- what a roll has has a property, where it has a table
abbrev pub HasPropertyWhereMade : Property → List FilteredFunction → Roll → Type 0
HasPropertyWhereMade property functions roll = IfSome roll.table (HasProperty property roll.set.items functions)

-- the tables of rolls have the properties of the table that they are rolled out of
pub rolled-each : (functions : List FilteredFunction) (finer : SetTable) (olds news : List Roll) → length news ≡ length olds → AreRolled functions finer olds news
    → (property : Property) → HasProperty property finer.set.items functions finer.table → All (HasPropertyWhereMade property functions) news
rolled-each functions finer olds news n each property h = λ i d l.
    let roll = each i d (omega (arith, l, n)) in
    subst (λ (s : List ℕ). IfSome (slice_index_or news i d).table (HasProperty property s functions)) (sym roll.0)
    (IfSome_then (slice_index_or news i d).table roll.2 (λ table rolled. rolled property h))

-- the table of a roll has what its roll has
pub rolled-table : (property : Property) (functions : List FilteredFunction) (roll : Roll) (made : SetTable) → made.set.items ≡ roll.set.items → roll.table ≡ Some made.table
    → HasPropertyWhereMade property functions roll → HasProperty property made.set.items functions made.table
rolled-table property functions roll made set table h =
    subst (λ (s : List ℕ). HasProperty property s functions made.table) (sym set)
    (subst (λ (o : Option Contents). IfSome o (HasProperty property roll.set.items functions)) table h)

-- one more table of the rolls
pub sets-more : (tables : List SetTable) (made : SetTable) (roll : Roll) (rest : List Roll) → made.set.items ≡ roll.set.items → made.index ≡ Some roll.index
    → sets_of_tables (tables ++ made ∷ []) ++ sets_of_rolls rest ≡ sets_of_tables tables ++ sets_of_rolls (roll ∷ rest)
sets-more tables made roll rest set index =
    ap (λ (sets : List ListedSet). sets ++ sets_of_rolls rest) (map_push listed_table tables made)
    ∙ append_assoc (sets_of_tables tables) (listed_table made ∷ []) (sets_of_rolls rest)
    ∙ ap₂ (λ (i : Option ℕ) (s : List ℕ). sets_of_tables tables ++ (i, s) ∷ sets_of_rolls rest) index set

-- ---- the sets that wait at first

-- a set that is read at an index stands there
pub stands-new : (sets : List (Vec ℕ Global)) (item : Vec ℕ Global) (roll : Roll) → roll.index < length sets → item ≡ get_or sets roll.index item → roll.set.items ≡ item.items
    → StandsAtIndex sets (listed_roll roll)
stands-new sets item roll within is set = λ i other at.
    subst (λ (n : ℕ). (n < length sets) × ((slice_index_or sets n other).items ≡ roll.set.items)) (same_Some roll.index i at)
    (within, ap (λ (v : Vec ℕ Global). v.items) (sym (get_or_read sets roll.index item within is other)) ∙ sym set)

-- where all sets below an index wait but one, and the set at the index waits or is that one, so do
-- all up to it
pub all-more : (made : Option ℕ) (index : ℕ) (olds news : List ListedSet) → ((i : ℕ) → i < index → NoneHasIndex i olds → made ≡ Some i)
    → ((i : ℕ) → NoneHasIndex i news → NoneHasIndex i olds) → (NoneHasIndex index news → made ≡ Some index)
    → (i : ℕ) → i < index + 1 → NoneHasIndex i news → made ≡ Some i
all-more made index olds news below keeps here i within none = elim (i == index) as (λ b. (i == index) ≡ b → made ≡ Some i) [
  | true ↦ λ e. let same : i ≡ index = grind (arith, e) in subst (λ (n : ℕ). NoneHasIndex n news → made ≡ Some n) (sym same) here none
  | false ↦ λ e. below i (grind (arith, e, within)) (keeps i none)
] refl

pub same-option : (o : Option ℕ) (index : ℕ) → false ≡ not (option_eq eqb o (Some index)) → o ≡ Some index
same-option None index h = cc
same-option (Some i) index h = elim (eqb i index) as (λ b. eqb i index ≡ b → false ≡ not b → Some i ≡ Some index) [
  | true ↦ λ e g. let same : i ≡ index = grind (arith, e) in ap Some same
  | false ↦ λ e g. cc
] refl h

-- the set that comes last has its index
pub last-index : (index i : ℕ) (sets : List ListedSet) (set : List ℕ) → NoneHasIndex i (sets ++ (Some index, set) ∷ []) → index ≡ i → ⊥
last-index index i sets set none e = all-last (λ (other : ListedSet). other.0 ≢ Some i) sets (Some index, set) none (ap Some e)

-- ---- the sets that are rolled out of a table, and those that wait on

-- one more is rolled
pub split-rolled : (waiting rolls left rest : List Roll) (roll : Roll) → IsPermutation waiting (rolls ++ (left ++ roll ∷ rest)) → IsPermutation waiting ((rolls ++ roll ∷ []) ++ (left ++ rest))
split-rolled waiting rolls left rest roll h =
    subst (IsPermutation waiting) (sym (append_assoc rolls (roll ∷ []) (left ++ rest)))
    (IsPermutation-trans waiting (rolls ++ (left ++ roll ∷ rest)) (rolls ++ (roll ∷ (left ++ rest))) h
    (IsPermutation-append_right rolls (left ++ roll ∷ rest) (roll ∷ (left ++ rest)) (IsPermutation-middle left roll rest)))

-- one more waits on
pub split-left : (waiting rolls left rest : List Roll) (roll : Roll) → IsPermutation waiting (rolls ++ (left ++ roll ∷ rest)) → IsPermutation waiting (rolls ++ ((left ++ roll ∷ []) ++ rest))
split-left waiting rolls left rest roll h = subst (λ xs. IsPermutation waiting (rolls ++ xs)) (sym (append_assoc left (roll ∷ []) rest)) h

-- what has a finer set keeps it where sets come
pub finer-more : (set : List ℕ) (sets more : List ListedSet) → HasFiner set sets → HasFiner set (sets ++ more)
finer-more set sets more h none = h (all-first (λ (other : ListedSet). AreAmong set other.1 → ⊥) sets more none)

-- where a roll has all columns of a set, the set has a finer one
pub finer-any : (set : List ℕ) (rolls : List Roll) → Any (λ (roll : Roll). AreAmong set roll.set.items) rolls → HasFiner set (sets_of_rolls rolls)
finer-any set rolls any none =
    all-unmap (λ (other : ListedSet). AreAmong set other.1 → ⊥) listed_roll rolls none any.0 any.1 any.2
    (subst (λ (roll : Roll). AreAmong set roll.set.items) (sym any.3) any.4)

-- what waits, since a set that is rolled or another one that was chosen has its columns
abbrev pub WaitsOn : List ℕ → List Roll → Roll → Type 0
WaitsOn finer rolls roll = AreAmong roll.set.items finer → HasFiner roll.set.items (sets_of_rolls rolls)

-- it waits on where one more is rolled
pub waits-more : (finer : List ℕ) (rolls : List Roll) (more : Roll) (left : List Roll) → All (WaitsOn finer rolls) left → All (WaitsOn finer (rolls ++ more ∷ [])) left
waits-more finer rolls more left h =
    All-weaker (WaitsOn finer rolls) (WaitsOn finer (rolls ++ more ∷ []))
    (λ roll waits among. subst (HasFiner roll.set.items) (sym (map_push listed_roll rolls more)) (finer-more roll.set.items (sets_of_rolls rolls) (listed_roll more ∷ []) (waits among))) left h
