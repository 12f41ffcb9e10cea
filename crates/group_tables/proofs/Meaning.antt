-- What is kept of a group, and tables, by the members of the groups.
use Rattle.std.proofs.Common.{◌≡◌, ◌≢◌, ◌+◌, ◌<◌, ◌≤◌, ◌^◌, ℕ, zero, suc, ℤ, ◌+ℤ◌, Bool, true, false, ◌||◌, cond, List, [], ◌∷◌, ◌++◌, length, map, filter, filter_map, Option, Some, None, IfSome, unwrap_or, option_map, slice_index_or, refl, sym, ap, subst, ◌∙◌, arith, length-append}
use Rattle.std.proofs.Math.Logic.{∥∥₁_elim}
use Rattle.std.proofs.Props.{props}
use Rattle.std.proofs.lemmas.Int.{ints}
use Rattle.std.proofs.lemmas.List.{map-append}
use Rattle.std.proofs.lemmas.List.Elements.{filter-append, filter_map-append}
use Rattle.std.proofs.lemmas.List.Folds.{list_any-append}
use Rattle.std.specs.List.{list_any}
use Rattle.std.specs.FinMap as fin
use Rattle.semantics.specs.Values.{value_order}
use Rattle.semantics.specs.Lists.{distinct}
use Rattle.semantics.specs.declared.function.ColumnFunction.{ColumnFunction}
use Rattle.semantics.specs.declared.function.ColumnFunction.TheVariants as function
use Rattle.query_resolve.specs.declared.function.FilteredFunction.{FilteredFunction}
use Rattle.semantics.specs.Groups.{Record, value_at, Key, project, key_order, same_key, keys, members}
use Rattle.semantics.specs.Aggregates.{is_non_null, number_of, column_values, column_numbers, AggregateFunction, total, minimum, maximum}
use Rattle.group_tables.specs.Functions.{aggregate_of, filter_at}
use Rattle.group_tables.specs.Values.{falling_order, first_by, set_of}
use Rattle.group_tables.specs.Accumulator.{AccumulatorState, counted, summed, averaged, collected, lowest, highest, accumulator_state, state_over, state_counted, state_by, joint_state}
use Rattle.group_tables.specs.Inside.Accumulator.{no_state, is_marked, with_member, with_record}
use Rattle.group_tables.specs.Group.{GroupState, group_state, joint_states, joint_group}
use Rattle.group_tables.specs.Inside.Group.{no_group, all_with_row, with_row}
use Rattle.group_tables.specs.Table.{Contents, IsTableOf, IsJoined, IsFitting, CanJoin, TakesOne, joint_option}
use Rattle.group_tables.specs.Inside.Table.{IsAdded, IsPut, HasPlace, IsGroupWithin, AreGroupsWithin, group_with_record}
use Rattle.group_tables.proofs.Order.{key_total}
use Rattle.group_tables.proofs.Firsts.{present-all, least-append, least-one, greatest-append, greatest-one}
use Rattle.group_tables.proofs.Repeats.{any-distinct}
use Rattle.group_tables.proofs.Sets.{union-append}

pub same_state : (g h : GroupState) → g.lines ≡ h.lines → g.parts ≡ h.parts → g ≡ h
same_state g h p q i = record { lines = p i; parts = q i }

-- ---- what is kept of two lists of records

values-append : (place : ℕ) (l m : List Record) → column_values place (l ++ m) ≡ column_values place l ++ column_values place m
values-append place l m = ap (filter is_non_null) (map-append (value_at place) l m) ∙ filter-append is_non_null (map (value_at place) l) (map (value_at place) m)

numbers-append : (place : ℕ) (l m : List Record) → column_numbers place (l ++ m) ≡ column_numbers place l ++ column_numbers place m
numbers-append place l m = ap (filter_map number_of) (map-append (value_at place) l m) ∙ filter_map-append number_of (map (value_at place) l) (map (value_at place) m)

total-append : (xs ys : List ℤ) → total (xs ++ ys) ≡ total xs +ℤ total ys
total-append [] ys = omega (arith, ints)
total-append (x ∷ xs) ys = let h = total-append xs ys in omega (arith, ints, h)

count-append : (place : ℕ) (l m : List Record) → length (column_values place (l ++ m)) ≡ length (column_values place l) + length (column_values place m)
count-append place l m = ap length (values-append place l m) ∙ length-append (column_values place l) (column_values place m)

numbers_count-append : (place : ℕ) (l m : List Record) → length (column_numbers place (l ++ m)) ≡ length (column_numbers place l) + length (column_numbers place m)
numbers_count-append place l m = ap length (numbers-append place l m) ∙ length-append (column_numbers place l) (column_numbers place m)

numbers_total-append : (place : ℕ) (l m : List Record) → total (column_numbers place (l ++ m)) ≡ total (column_numbers place l) +ℤ total (column_numbers place m)
numbers_total-append place l m = ap total (numbers-append place l m) ∙ total-append (column_numbers place l) (column_numbers place m)

state_over-append : (f : ColumnFunction) (l m : List Record) → state_over f (l ++ m) ≡ joint_state (state_over f l) (state_over f m)
state_over-append function.CountRows l m = refl
state_over-append (function.Count place) l m = ap counted (count-append place l m)
state_over-append (function.CountDistinct place) l m = ap collected (ap set_of (values-append place l m) ∙ union-append (column_values place l) (column_values place m))
state_over-append (function.Sum place) l m = λ i. summed (numbers_total-append place l m i) (numbers_count-append place l m i)
state_over-append (function.Min place) l m = ap lowest (ap minimum (values-append place l m) ∙ least-append (column_values place l) (column_values place m))
state_over-append (function.Max place) l m = ap highest (ap maximum (values-append place l m)
    ∙ greatest-append (column_values place l) (column_values place m) (present-all (map (value_at place) l)) (present-all (map (value_at place) m)))
state_over-append (function.Avg place) l m = λ i. averaged (numbers_total-append place l m i) (numbers_count-append place l m i)

state_counted-append : (f : ColumnFunction) (l m : List Record) → state_counted f (l ++ m) ≡ joint_state (state_counted f l) (state_counted f m)
state_counted-append function.CountRows l m = ap counted (length-append l m)
state_counted-append (function.Count place) l m = state_over-append (function.Count place) l m
state_counted-append (function.CountDistinct place) l m = state_over-append (function.CountDistinct place) l m
state_counted-append (function.Sum place) l m = state_over-append (function.Sum place) l m
state_counted-append (function.Min place) l m = state_over-append (function.Min place) l m
state_counted-append (function.Max place) l m = state_over-append (function.Max place) l m
state_counted-append (function.Avg place) l m = state_over-append (function.Avg place) l m

state_by-append : (t : Option (Record → Bool)) (f : ColumnFunction) (l m : List Record) → state_by t f (l ++ m) ≡ joint_state (state_by t f l) (state_by t f m)
state_by-append None f l m = state_over-append f l m
state_by-append (Some keeps) f l m = ap (state_counted f) (filter-append keeps l m) ∙ state_counted-append f (filter keeps l) (filter keeps m)

-- ---- what is kept of one more record

state_over-with_record : (f : ColumnFunction) (l : List Record) (row : Record) → with_record f (state_over f l) row ≡ state_over f (l ++ row ∷ [])
state_over-with_record function.CountRows l row = refl
state_over-with_record (function.Count place) l row = sym (ap counted (count-append place l (row ∷ [])))
state_over-with_record (function.CountDistinct place) l row = sym (state_over-append (function.CountDistinct place) l (row ∷ []))
state_over-with_record (function.Sum place) l row = sym (λ i. summed (numbers_total-append place l (row ∷ []) i) (numbers_count-append place l (row ∷ []) i))
state_over-with_record (function.Min place) l row = ap (λ d. lowest (first_by value_order (minimum (column_values place l)) d)) (sym (least-one (value_at place row)))
    ∙ sym (state_over-append (function.Min place) l (row ∷ []))
state_over-with_record (function.Max place) l row = ap (λ d. highest (first_by falling_order (maximum (column_values place l)) d)) (sym (greatest-one (value_at place row)))
    ∙ sym (state_over-append (function.Max place) l (row ∷ []))
state_over-with_record (function.Avg place) l row = sym (λ i. averaged (numbers_total-append place l (row ∷ []) i) (numbers_count-append place l (row ∷ []) i))

state_counted-with_record : (f : ColumnFunction) (l : List Record) (row : Record) → with_record f (state_counted f l) row ≡ state_counted f (l ++ row ∷ [])
state_counted-with_record function.CountRows l row = sym (ap counted (length-append l (row ∷ [])))
state_counted-with_record (function.Count place) l row = state_over-with_record (function.Count place) l row
state_counted-with_record (function.CountDistinct place) l row = state_over-with_record (function.CountDistinct place) l row
state_counted-with_record (function.Sum place) l row = state_over-with_record (function.Sum place) l row
state_counted-with_record (function.Min place) l row = state_over-with_record (function.Min place) l row
state_counted-with_record (function.Max place) l row = state_over-with_record (function.Max place) l row
state_counted-with_record (function.Avg place) l row = state_over-with_record (function.Avg place) l row

pub append-nil : {A : Type 0} (xs : List A) → xs ++ [] ≡ xs
append-nil [] = refl
append-nil (x ∷ xs) = ap (λ ys. x ∷ ys) (append-nil xs)

state_kept : (keeps : Record → Bool) (f : ColumnFunction) (l : List Record) (row : Record) → with_member (keeps row) f (state_counted f (filter keeps l)) row ≡ state_counted f (filter keeps (l ++ row ∷ []))
state_kept keeps f l row =
    elim (keeps row) as (λ b. with_member b f (state_counted f (filter keeps l)) row ≡ state_counted f (filter keeps l ++ cond b (row ∷ []) [])) [
      | true ↦ state_counted-with_record f (filter keeps l) row
      | false ↦ ap (state_counted f) (sym (append-nil (filter keeps l)))
    ]
    ∙ ap (state_counted f) (sym (filter-append keeps l (row ∷ [])))

-- the mark of a filter says whether it keeps the record
marked-at : (filters : List (Record → Bool)) (row : Record) (index : ℕ) → slice_index_or (map (λ keeps. keeps row) filters) index false ≡ filter_at filters index row
marked-at [] row index = refl
marked-at (keeps ∷ filters) row zero = refl
marked-at (keeps ∷ filters) row (suc index) = marked-at filters row index

state_by-with_member : (filters : List (Record → Bool)) (t : Option ℕ) (f : ColumnFunction) (l : List Record) (row : Record)
    → with_member (is_marked (map (λ keeps. keeps row) filters) t) f (state_by (option_map (filter_at filters) t) f l) row ≡ state_by (option_map (filter_at filters) t) f (l ++ row ∷ [])
state_by-with_member filters None f l row = state_over-with_record f l row
state_by-with_member filters (Some index) f l row =
    ap (λ b. with_member b f (state_counted f (filter (filter_at filters index) l)) row) (marked-at filters row index)
    ∙ state_kept (filter_at filters index) f l row

parts-append : (fs : List AggregateFunction) (l m : List Record) → map (λ f. accumulator_state f (l ++ m)) fs ≡ joint_states (map (λ f. accumulator_state f l) fs) (map (λ f. accumulator_state f m) fs)
parts-append [] l m = refl
parts-append (f ∷ fs) l m = λ i. state_by-append f.filter f.function l m i ∷ parts-append fs l m i

parts-with_row : (filters : List (Record → Bool)) (fs : List FilteredFunction) (l : List Record) (row : Record)
    → all_with_row fs (map (λ keeps. keeps row) filters) (map (λ f. accumulator_state f l) (map (aggregate_of filters) fs)) row
    ≡ map (λ f. accumulator_state f (l ++ row ∷ [])) (map (aggregate_of filters) fs)
parts-with_row filters [] l row = refl
parts-with_row filters (f ∷ fs) l row = λ i. state_by-with_member filters f.filter f.function l row i ∷ parts-with_row filters fs l row i

parts-none : (filters : List (Record → Bool)) (t : Option ℕ) (f : ColumnFunction) → no_state t f ≡ state_by (option_map (filter_at filters) t) f []
parts-none filters None f = refl
parts-none filters (Some index) f = refl

all_parts-none : (filters : List (Record → Bool)) (fs : List FilteredFunction) → map (λ f. no_state f.filter f.function) fs ≡ map (λ f. accumulator_state f []) (map (aggregate_of filters) fs)
all_parts-none filters [] = refl
all_parts-none filters (f ∷ fs) = λ i. parts-none filters f.filter f.function i ∷ all_parts-none filters fs i

-- a group without members is the same whatever the filters keep
pub no_group-is : (filters : List (Record → Bool)) (fs : List FilteredFunction) → no_group fs ≡ group_state (map (aggregate_of filters) fs) []
no_group-is filters fs = λ i. record { lines = 0; parts = all_parts-none filters fs i }

pub group_state-append : (fs : List AggregateFunction) (l m : List Record) → group_state fs (l ++ m) ≡ joint_group (group_state fs l) (group_state fs m)
group_state-append fs l m = same_state (group_state fs (l ++ m)) (joint_group (group_state fs l) (group_state fs m)) (length-append l m) (parts-append fs l m)

group_state-with_row : (filters : List (Record → Bool)) (fs : List FilteredFunction) (l : List Record) (row : Record)
    → with_row fs (map (λ keeps. keeps row) filters) (group_state (map (aggregate_of filters) fs) l) row ≡ group_state (map (aggregate_of filters) fs) (l ++ row ∷ [])
group_state-with_row filters fs l row =
    same_state (with_row fs (map (λ keeps. keeps row) filters) (group_state (map (aggregate_of filters) fs) l) row) (group_state (map (aggregate_of filters) fs) (l ++ row ∷ []))
    (let h = length-append l (row ∷ []) in omega (arith, h)) (parts-with_row filters fs l row)

-- ---- whether a key is one of a list of records

-- a key stands among keys as it does among them without repeats
pub any-key : (q : Key) (ks : List Key) → list_any (same_key q) (distinct same_key ks) ≡ list_any (same_key q) ks
any-key q ks = any-distinct key_total q ks

abbrev pub has_key : List ℕ → Key → List Record → Bool
has_key set key rows = list_any (same_key key) (keys set rows)

or-false : (b : Bool) → b ≡ (b || false)
or-false true = refl
or-false false = refl

or-same : (b : Bool) → (b || false) ≡ ((b || false) || (b || false))
or-same true = refl
or-same false = refl

has_key-append : (set : List ℕ) (k : Key) (l m : List Record) → has_key set k (l ++ m) ≡ (has_key set k l || has_key set k m)
has_key-append [] k l m = or-same (same_key k [])
has_key-append (p ∷ ps) k l m =
    let f = project (p ∷ ps) in
    any-key k (map f (l ++ m)) ∙ ap (list_any (same_key k)) (map-append f l m) ∙ list_any-append (same_key k) (map f l) (map f m)
    ∙ ap (λ b. b || list_any (same_key k) (map f m)) (sym (any-key k (map f l))) ∙ ap (λ b. list_any (same_key k) (distinct same_key (map f l)) || b) (sym (any-key k (map f m)))

has_key-one : (set : List ℕ) (k : Key) (row : Record) → has_key set k (row ∷ []) ≡ (same_key k (project set row) || false)
has_key-one [] k row = refl
has_key-one (p ∷ ps) k row = refl

or-true : (a b : Bool) → (a || b) ≡ false → a ≡ false
or-true true b e = e
or-true false b e = refl

or-rest : (a b : Bool) → (a || b) ≡ false → b ≡ false
or-rest true b e = cc
or-rest false b e = e

none-projected : (set : List ℕ) (k : Key) (rows : List Record) → list_any (same_key k) (map (project set) rows) ≡ false → members set k rows ≡ []
none-projected set k [] h = refl
none-projected set k (row ∷ rows) h =
    let a = or-true (same_key k (project set row)) (list_any (same_key k) (map (project set) rows)) h in
    let b = or-rest (same_key k (project set row)) (list_any (same_key k) (map (project set) rows)) h in
    ap (λ c. cond c (row ∷ members set k rows) (members set k rows)) a ∙ none-projected set k rows b

none-empty : (k : Key) (rows : List Record) → same_key k [] ≡ false → list_any (same_key k) (map (project []) rows) ≡ false
none-empty k [] h = refl
none-empty k (row ∷ rows) h = ap (λ b. b || list_any (same_key k) (map (project []) rows)) h ∙ none-empty k rows h

-- a key that is none of a list's has no member
pub no_members : (set : List ℕ) (k : Key) (rows : List Record) → has_key set k rows ≡ false → members set k rows ≡ []
no_members [] k rows h = none-projected [] k rows (none-empty k rows (or-true (same_key k []) false h))
no_members (p ∷ ps) k rows h = none-projected (p ∷ ps) k rows (sym (any-key k (map (project (p ∷ ps)) rows)) ∙ h)

-- ---- tables

abbrev pub group_at : List ℕ → List AggregateFunction → Key → List Record → Option GroupState
group_at set fs k rows = cond (has_key set k rows) (Some (group_state fs (members set k rows))) None

both : (fs : List AggregateFunction) (a b : Bool) (x y : List Record) → (a ≡ false → x ≡ []) → (b ≡ false → y ≡ [])
    → cond (a || b) (Some (group_state fs (x ++ y))) None ≡ joint_option (cond a (Some (group_state fs x)) None) (cond b (Some (group_state fs y)) None)
both fs true true x y p q = ap Some (group_state-append fs x y)
both fs true false x y p q = ap (λ z. Some (group_state fs (x ++ z))) (q refl) ∙ ap (λ z. Some (group_state fs z)) (append-nil x)
both fs false true x y p q = ap (λ z. Some (group_state fs (z ++ y))) (p refl)
both fs false false x y p q = refl

pub group_at-append : (set : List ℕ) (fs : List AggregateFunction) (k : Key) (l m : List Record) → group_at set fs k (l ++ m) ≡ joint_option (group_at set fs k l) (group_at set fs k m)
group_at-append set fs k l m =
    ap (λ b. cond b (Some (group_state fs (members set k (l ++ m)))) None) (has_key-append set k l m)
    ∙ ap (λ ms. cond (has_key set k l || has_key set k m) (Some (group_state fs ms)) None) (filter-append (λ row. same_key k (project set row)) l m)
    ∙ both fs (has_key set k l) (has_key set k m) (members set k l) (members set k m) (no_members set k l) (no_members set k m)

-- two tables put together are that of the records of both
pub table-joined : (set : List ℕ) (fs : List AggregateFunction) (t u v : Contents) (l m : List Record) → IsTableOf set fs t l → IsTableOf set fs u m → ((k : Key) → IsJoined t u v k) → IsTableOf set fs v (l ++ m)
table-joined set fs t u v l m a b j k = j k ∙ ap (λ o. joint_option o (fin.get u k)) (a k) ∙ ap (joint_option (group_at set fs k l)) (b k) ∙ sym (group_at-append set fs k l m)

pub group_state-at : (fs : List AggregateFunction) (b : Bool) (x : List Record) → (b ≡ false → x ≡ []) → unwrap_or (cond b (Some (group_state fs x)) None) (group_state fs []) ≡ group_state fs x
group_state-at fs true x p = refl
group_state-at fs false x p = ap (group_state fs) (sym (p refl))

group_with_record-at : (filters : List (Record → Bool)) (fs : List FilteredFunction) (row : Record) (a c : Bool) (x : List Record) → (a ≡ false → x ≡ [])
    → cond c (Some (group_with_record fs (map (λ keeps. keeps row) filters) (cond a (Some (group_state (map (aggregate_of filters) fs) x)) None) row)) (cond a (Some (group_state (map (aggregate_of filters) fs) x)) None)
    ≡ cond (a || (c || false)) (Some (group_state (map (aggregate_of filters) fs) (x ++ cond c (row ∷ []) []))) None
group_with_record-at filters fs row true true x p = ap Some (group_state-with_row filters fs x row)
group_with_record-at filters fs row false true x p =
    ap (λ h. Some (with_row fs (map (λ keeps. keeps row) filters) h row)) (no_group-is filters fs ∙ ap (group_state (map (aggregate_of filters) fs)) (sym (p refl)))
    ∙ ap Some (group_state-with_row filters fs x row)
group_with_record-at filters fs row true false x p = ap (λ z. Some (group_state (map (aggregate_of filters) fs) z)) (sym (append-nil x))
group_with_record-at filters fs row false false x p = refl

-- a table with one more record
table-added-marked : (set : List ℕ) (filters : List (Record → Bool)) (functions : List FilteredFunction) (t v : Contents) (l : List Record) (row : Record) → IsTableOf set (map (aggregate_of filters) functions) t l
    → ((k : Key) → IsAdded functions (map (λ keeps. keeps row) filters) t v (project set row) row k) → IsTableOf set (map (aggregate_of filters) functions) v (l ++ row ∷ [])
table-added-marked set filters functions t v l row a j k =
    let fs = map (aggregate_of filters) functions in
    j k
    ∙ ap (λ o. cond (same_key k (project set row)) (Some (group_with_record functions (map (λ keeps. keeps row) filters) o row)) o) (a k)
    ∙ group_with_record-at filters functions row (has_key set k l) (same_key k (project set row)) (members set k l) (no_members set k l)
    ∙ ap (λ b. cond (has_key set k l || b) (Some (group_state fs (members set k l ++ members set k (row ∷ [])))) None) (sym (has_key-one set k row))
    ∙ ap (λ b. cond b (Some (group_state fs (members set k l ++ members set k (row ∷ [])))) None) (sym (has_key-append set k l (row ∷ [])))
    ∙ ap (λ ms. cond (has_key set k (l ++ row ∷ [])) (Some (group_state fs ms)) None) (sym (filter-append (λ r. same_key k (project set r)) l (row ∷ [])))

pub table-added : (set : List ℕ) (functions : List FilteredFunction) (marks : List Bool) (t v : Contents) (row : Record) → ((k : Key) → IsAdded functions marks t v (project set row) row k)
    → (filters : List (Record → Bool)) (l : List Record) → marks ≡ map (λ keeps. keeps row) filters
    → IsTableOf set (map (aggregate_of filters) functions) t l → IsTableOf set (map (aggregate_of filters) functions) v (l ++ row ∷ [])
table-added set functions marks t v row j filters l m a =
    table-added-marked set filters functions t v l row a (subst (λ (ms : List Bool). (k : Key) → IsAdded functions ms t v (project set row) row k) m j)

-- the empty set has its one group from the start
pub table-empty_set : (set : List ℕ) (functions : List FilteredFunction) (t : Contents) → length set ≡ 0 → ((k : Key) → IsPut fin.empty t [] (no_group functions) k)
    → (filters : List (Record → Bool)) → IsTableOf set (map (aggregate_of filters) functions) t []
table-empty_set [] functions t z h filters k = h k
    ∙ ap (λ (g : GroupState). cond (same_key k []) (joint_option (fin.get (fin.empty {X = GroupState} {R = key_order}) k) (Some g)) (fin.get (fin.empty {X = GroupState} {R = key_order}) k)) (no_group-is filters functions)
    ∙ ap (λ o. cond (same_key k []) (joint_option o (Some (group_state (map (aggregate_of filters) functions) []))) o) (fin.get-empty key_order k)
    ∙ ap (λ b. cond b (Some (group_state (map (aggregate_of filters) functions) [])) None) (or-false (same_key k []))
table-empty_set (place ∷ places) functions t z h filters k = absurd (omega (arith, z))

-- another set has no group without records
pub table-no_group : (set : List ℕ) (fs : List AggregateFunction) (t : Contents) → length set ≢ 0 → t ≡ fin.empty → IsTableOf set fs t []
table-no_group [] fs t n e k = absurd (n refl)
table-no_group (place ∷ places) fs t n e k = ap (λ m. fin.get m k) e ∙ fin.get-empty key_order k

-- ---- room

pub filter-le : (p : Record → Bool) (l : List Record) → length (filter p l) ≤ length l
filter-le p [] = omega arith
filter-le p (r ∷ l) = elim (p r) as (λ b. length (cond b (r ∷ filter p l) (filter p l)) ≤ suc (length l)) [ true ↦ omega (arith, filter-le p l) | false ↦ omega (arith, filter-le p l) ]

map-length : {A B : Type 0} (f : A → B) (xs : List A) → length (map f xs) ≡ length xs
map-length f [] = refl
map-length f (x ∷ xs) = ap suc (map-length f xs)

place-at : (functions : List FilteredFunction) (fs : List AggregateFunction) (b : Bool) (x : List Record) → length fs ≡ length functions → length x + 1 < 2 ^ 63
    → HasPlace functions (cond b (Some (group_state fs x)) None)
place-at functions fs true x e h = (h, map-length (λ f. accumulator_state f x) fs ∙ e)
place-at functions fs false x e h = tt

-- a table of few records takes one more
table-place : (set : List ℕ) (functions : List FilteredFunction) (filters : List (Record → Bool)) (t : Contents) (l : List Record) → IsTableOf set (map (aggregate_of filters) functions) t l
    → length l + 1 < 2 ^ 63 → (k : Key) → HasPlace functions (fin.get t k)
table-place set functions filters t l a few k = subst (λ (o : Option GroupState). HasPlace functions o) (sym (a k))
    (place-at functions (map (aggregate_of filters) functions) (has_key set k l) (members set k l) (map-length (aggregate_of filters) functions)
    (omega (arith, few, filter-le (λ r. same_key k (project set r)) l)))

place-prop : (functions : List FilteredFunction) (o : Option GroupState) → IsProp (HasPlace functions o)
place-prop functions None = hlevel props
place-prop functions (Some g) = hlevel props

-- so does one of which only that is known
pub table-takes : (set : List ℕ) (functions : List FilteredFunction) (t : Contents) → ∥ TakesOne set functions t ∥₁ → (k : Key) → HasPlace functions (fin.get t k)
table-takes set functions t some k = ∥∥₁_elim some (place-prop functions (fin.get t k)) (λ r. table-place set functions r.filters t r.rows r.is_table r.few k)

-- ---- tables within a number of records

within-at : (functions : List FilteredFunction) (fs : List AggregateFunction) (n : ℕ) (b : Bool) (x : List Record) → length fs ≡ length functions → length x ≤ n
    → IfSome (cond b (Some (group_state fs x)) None) (IsGroupWithin n functions)
within-at functions fs n true x e h = (h, map-length (λ f. accumulator_state f x) fs ∙ e)
within-at functions fs n false x e h = tt

-- the table of so many records is within them
pub table-within : (set : List ℕ) (functions : List FilteredFunction) (fs : List AggregateFunction) (t : Contents) (l : List Record) (n : ℕ) → length fs ≡ length functions
    → IsTableOf set fs t l → length l ≤ n → AreGroupsWithin n functions t
table-within set functions fs t l n e a few k = subst (λ (o : Option GroupState). IfSome o (IsGroupWithin n functions)) (sym (a k))
    (within-at functions fs n (has_key set k l) (members set k l) e (omega (arith, few, filter-le (λ r. same_key k (project set r)) l)))

pub joint_states-length : (ks ls : List AccumulatorState) → length (joint_states ks ls) ≡ length ks
joint_states-length [] ls = refl
joint_states-length (k ∷ ks) [] = refl
joint_states-length (k ∷ ks) (l ∷ ls) = ap suc (joint_states-length ks ls)

within-join : (fs : List FilteredFunction) (m n : ℕ) (a b : Option GroupState) → IfSome a (IsGroupWithin m fs) → IfSome b (IsGroupWithin n fs) → IfSome (joint_option a b) (IsGroupWithin (m + n) fs)
within-join fs m n None None p q = tt
within-join fs m n None (Some b) p q = (omega (arith, q.0), q.1)
within-join fs m n (Some a) None p q = (omega (arith, p.0), p.1)
within-join fs m n (Some a) (Some b) p q = (omega (arith, p.0, q.0), joint_states-length a.parts b.parts ∙ p.1)

-- two tables put together are within both numbers of records
pub tables-within : (fs : List FilteredFunction) (m n : ℕ) (t u v : Contents) → AreGroupsWithin m fs t → AreGroupsWithin n fs u → ((k : Key) → IsJoined t u v k) → AreGroupsWithin (m + n) fs v
tables-within fs m n t u v p q j k = subst (λ (o : Option GroupState). IfSome o (IsGroupWithin (m + n) fs)) (sym (j k)) (within-join fs m n (fin.get t k) (fin.get u k) (p k) (q k))

fits-within : (fs : List FilteredFunction) (m n : ℕ) (a b : Option GroupState) → m + n < 2 ^ 63 → IfSome a (IsGroupWithin m fs) → IfSome b (IsGroupWithin n fs) → IfSome b (λ part. IsFitting part a)
fits-within fs m n None None few p q = tt
fits-within fs m n None (Some b) few p q = tt
fits-within fs m n (Some a) None few p q = tt
fits-within fs m n (Some a) (Some b) few p q = (omega (arith, few, p.0, q.0), q.1 ∙ sym p.1)

-- tables within few records can be put together
pub within-can_join : (fs : List FilteredFunction) (m n : ℕ) (t u : Contents) → m + n < 2 ^ 63 → AreGroupsWithin m fs t → AreGroupsWithin n fs u → CanJoin t u
within-can_join fs m n t u few p q k = fits-within fs m n (fin.get t k) (fin.get u k) few (p k) (q k)
