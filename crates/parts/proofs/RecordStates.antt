-- The keys and the states of records that fit a schema are such as a reader of groups asks.
use Rattle.std.proofs.Common.{◌≡◌, ◌≢◌, ◌≤◌, ℕ, zero, suc, ℤ, pos, negsuc, Bool, true, false, true≢false, not, cond, List, [], ◌∷◌, filter, filter_map, length, map, Option, Some, None, IfSome, option_map, refl, sym, ap, subst, ◌∙◌, arith}
use Rattle.std.proofs.lemmas.Int.{ints}
use Rattle.std.proofs.lemmas.List.{length-map}
use Rattle.std.specs.Int.{w64}
use Rattle.std.specs.List.{AllByRecursion, cons_option, list_all}
use Rattle.std.specs.List.Sorted.{IsStrictlySortedBy}
use Rattle.std.specs.Ordering.{is_gt, is_lt}
use Rattle.std.specs.Prelude.{FitsSigned}
use Rattle.std.specs.declared.cmp.Ordering.{Ordering}
use Rattle.semantics.specs.Aggregates.{AggregateFunction, column_numbers, column_values, maximum, is_non_null, minimum, number_of, numbers, non_null, same_value, total}
use Rattle.semantics.specs.Columns.{Field}
use Rattle.semantics.specs.ResultRows.{aggregate_functions}
use Rattle.semantics.specs.GroupStates.{different_values, function_state, state_by, state_over}
use Rattle.semantics.specs.Groups.{Record, keys, project, same_key, value_at}
use Rattle.semantics.specs.Lists.{distinct}
use Rattle.semantics.specs.Records.{Fits, Holds}
use Rattle.semantics.specs.Syntax.{Query}
use Rattle.semantics.specs.Values.{Datum, boolean, whole, text, null, value_order}
use Rattle.semantics.specs.declared.function.ColumnFunction.{ColumnFunction}
use Rattle.semantics.specs.declared.function.ColumnFunction.TheVariants as function
use Rattle.semantics.specs.declared.kind.Kind.{Kind}
use Rattle.semantics.specs.declared.kind.Kind.TheVariants as kind
use Rattle.query_resolve.specs.Functions.{indexed_functions}
use Rattle.query_resolve.specs.declared.function.FilteredFunction.{FilteredFunction}
use Rattle.part_lines.specs.Known.{AreDifferentOf, AreStatesFor, IsAscending, IsKeyFor, IsStateFor, IsSumOf}
use Rattle.tables.proofs.Bags.{all-distinct, all-filter, all-filter_map, find-such}
use Rattle.tables.proofs.Bound.{bound-functions}
use Rattle.query_plan.specs.Planned.{plan_of}
use Rattle.tables.specs.Functions.{filter_tests}
use Rattle.group_tables.proofs.Ascending.{in_order-sorted}
use Rattle.group_tables.proofs.Order.{value_total}
use Rattle.group_tables.proofs.Repeats.{distinct-is}
use Rattle.group_tables.specs.Functions.{aggregates_of, filter_at}
use Rattle.parts.specs.ReadingParts.{state_kind, state_kind_by, type_at}
use Rattle.parts.proofs.Lists.{all-ordered, distinct-le, filter-le, length-ordered, weaker}

-- ---- lists that are no longer

cons-le : {X : Type 0} (o : Option X) (ys : List X) (n : ℕ) → length ys ≤ n → length (cons_option o ys) ≤ suc n
cons-le None ys n h = omega (arith, h)
cons-le (Some y) ys n h = omega (arith, h)

kept-le : {X Y : Type 0} (f : X → Option Y) (xs : List X) → length (filter_map f xs) ≤ length xs
kept-le f [] = omega arith
kept-le f (x ∷ xs) = cons-le (f x) (filter_map f xs) (length xs) (kept-le f xs)

-- ---- what holds of each thing

-- what a filter keeps passes it
all-passed : {X : Type 0} (p : X → Bool) (xs : List X) → AllByRecursion (λ x. p x ≡ true) (filter p xs)
all-passed p [] = tt
all-passed p (x ∷ xs) = elim (p x) as (λ b. p x ≡ b → AllByRecursion (λ y. p y ≡ true) (cond b (x ∷ filter p xs) (filter p xs))) [
  | true ↦ λ e. (e, all-passed p xs)
  | false ↦ λ e. all-passed p xs
] refl

some-such : {X : Type 0} (P : X → Type 0) (o : Option X) → IfSome o P → (x : X) → o ≡ Some x → P x
some-such P None h x e = absurd cc
some-such P (Some y) h x e = let same : y ≡ x = cc in subst P same h

-- ---- values of a column

held-null : (k : Kind) → Holds k null
held-null k = tt

held-at : (fields : List Field) (place : ℕ) (row : Record) → Fits fields row → Holds (type_at fields place) (value_at place row)
held-at [] place [] fits = held-null (type_at [] place)
held-at [] place (d ∷ row) fits = absurd fits
held-at (f ∷ fields) place [] fits = absurd fits
held-at (f ∷ fields) zero (d ∷ row) fits = fits.0
held-at (f ∷ fields) (suc place) (d ∷ row) fits = held-at fields place row fits.1

column-held : (fields : List Field) (place : ℕ) (rows : List Record) → AllByRecursion (Fits fields) rows → AllByRecursion (Holds (type_at fields place)) (map (value_at place) rows)
column-held fields place [] fit = tt
column-held fields place (row ∷ rows) fit = (held-at fields place row fit.0, column-held fields place rows fit.1)

known : (d : Datum) → is_non_null d ≡ true → d ≢ null
known d there none = true≢false (sym there ∙ ap is_non_null none)

all-known : (ds : List Datum) → AllByRecursion (λ d. d ≢ null) (non_null ds)
all-known ds = weaker known (non_null ds) (all-passed is_non_null ds)

present-held : (k : Kind) (ds : List Datum) → AllByRecursion (Holds k) ds → AllByRecursion (Holds k) (non_null ds)
present-held k ds all = all-filter (Holds k) is_non_null ds all

-- ---- the least and the greatest value

least-held : (k : Kind) (ds : List Datum) → AllByRecursion (Holds k) ds → Holds k (minimum ds)
least-held k ds all = find-such (Holds k) (λ x. list_all (λ y. not (is_lt (value_order y x))) ds) ds null (held-null k) all

greatest-held : (k : Kind) (ds : List Datum) → AllByRecursion (Holds k) ds → Holds k (maximum ds)
greatest-held k ds all = find-such (Holds k) (λ x. list_all (λ y. not (is_gt (value_order y x))) ds) ds null (held-null k) all

-- ---- sums

-- a whole number of 64 bits, the sum of one
abbrev Is64Bits : ℤ → Type 0
Is64Bits n = IsSumOf 1 n

total-within : (ns : List ℤ) → AllByRecursion Is64Bits ns → IsSumOf (length ns) (total ns)
total-within [] all = (omega (arith, ints), omega (arith, ints))
total-within (n ∷ ns) all =
    let one = all.0 in
    let more = total-within ns all.1 in
    (omega (arith, ints, one, more), omega (arith, ints, one, more))

whole-64_bits : (n : ℤ) → FitsSigned w64 n → Is64Bits n
whole-64_bits (pos n) fits = let f = fits.sfits in (omega (arith, ints, f), omega (arith, ints, f))
whole-64_bits (negsuc n) fits = let f = fits.sfits in (omega (arith, ints, f), omega (arith, ints, f))

-- the number of a value that a column holds, where it is one
held-64_bits : (k : Kind) (d : Datum) → Holds k d → IfSome (number_of d) Is64Bits
held-64_bits k null held = tt
held-64_bits k (text s) held = tt
held-64_bits k (boolean b) held = tt
held-64_bits kind.Int (whole n) held = whole-64_bits n held
held-64_bits kind.Text (whole n) held = absurd held
held-64_bits kind.Bool (whole n) held = absurd held

numbers-64_bits : (k : Kind) (ds : List Datum) → AllByRecursion (Holds k) ds → AllByRecursion Is64Bits (numbers ds)
numbers-64_bits k ds all = all-filter_map Is64Bits number_of ds (weaker (λ d held. some-such Is64Bits (number_of d) (held-64_bits k d held)) ds all)

sum-held : (k : Kind) (ds : List Datum) → AllByRecursion (Holds k) ds → IsSumOf (length (numbers ds)) (total (numbers ds))
sum-held k ds all = total-within (numbers ds) (numbers-64_bits k ds all)

-- ---- different values

sorted-ascending : {X : Type 0} (order : X → X → Ordering) (xs : List X) → IsStrictlySortedBy order xs → IsAscending order xs
unfolding IsStrictlySortedBy
sorted-ascending order [] sorted = tt
sorted-ascending order (x ∷ []) sorted = tt
sorted-ascending order (x ∷ y ∷ more) sorted = (sorted.0.0, sorted-ascending order (y ∷ more) sorted.1)

pub different-le : (ds : List Datum) → length (different_values ds) ≤ length ds
different-le ds = let a = length-ordered value_order (distinct same_value ds) in let b = distinct-le same_value ds in omega (arith, a, b)

all-different : (P : Datum → Type 0) (ds : List Datum) → AllByRecursion P ds → AllByRecursion P (different_values ds)
all-different P ds all = all-ordered value_order P (distinct same_value ds) (all-distinct P same_value ds all)

different-held : (k : Kind) (ds : List Datum) → AllByRecursion (Holds k) ds → AllByRecursion (λ d. d ≢ null) ds → AreDifferentOf k (different_values ds)
different-held k ds held known = record {
  held = all-different (Holds k) ds held;
  known = all-different (λ d. d ≢ null) ds known;
  ascending = sorted-ascending value_order (different_values ds) (in_order-sorted value_total (distinct same_value ds) (distinct-is same_value ds));
}

-- ---- states

-- of records that fit, no more than the members
module _ (fields : List Field) (members : ℕ) (rows : List Record) (few : length rows ≤ members) (fit : AllByRecursion (Fits fields) rows) where
  pub values-few : (place : ℕ) → length (column_values place rows) ≤ members
  values-few place = let a = filter-le is_non_null (map (value_at place) rows) in let b = length-map rows (value_at place) in omega (arith, a, b, few)

  numbers-few : (place : ℕ) → length (column_numbers place rows) ≤ members
  numbers-few place = let a = kept-le number_of (map (value_at place) rows) in let b = length-map rows (value_at place) in omega (arith, a, b, few)

  values-held : (place : ℕ) → AllByRecursion (Holds (type_at fields place)) (column_values place rows)
  values-held place = present-held (type_at fields place) (map (value_at place) rows) (column-held fields place rows fit)

  pub summed-fits : (place : ℕ) → (length (column_numbers place rows) ≤ members) × IsSumOf (length (column_numbers place rows)) (total (column_numbers place rows))
  summed-fits place = (numbers-few place, sum-held (type_at fields place) (map (value_at place) rows) (column-held fields place rows fit))

  different-fits : (place : ℕ) → (length (different_values (column_values place rows)) ≤ members) × AreDifferentOf (type_at fields place) (different_values (column_values place rows))
  different-fits place =
      let a = different-le (column_values place rows) in
      let b = values-few place in
      (omega (arith, a, b), different-held (type_at fields place) (column_values place rows) (values-held place) (all-known (map (value_at place) rows)))

  -- a state has the kind of a set function with a FILTER, of whatever index
  over-fits : (index : ℕ) (f : ColumnFunction) → IsStateFor members (state_kind_by fields (Some index) f) (state_over f rows)
  over-fits index function.CountRows = few
  over-fits index (function.Count place) = values-few place
  over-fits index (function.CountDistinct place) = different-fits place
  over-fits index (function.Sum place) = summed-fits place
  over-fits index (function.Min place) = least-held (type_at fields place) (column_values place rows) (values-held place)
  over-fits index (function.Max place) = greatest-held (type_at fields place) (column_values place rows) (values-held place)
  over-fits index (function.Avg place) = summed-fits place

module _ (fields : List Field) (filters : List (Record → Bool)) (rows : List Record) (fit : AllByRecursion (Fits fields) rows) where
  all-fits : (f : ColumnFunction) → IsStateFor (length rows) (state_kind_by fields (Some zero) f) (state_over f rows)
  all-fits f = over-fits fields (length rows) rows (omega arith) fit zero f

  kept-fits : (index : ℕ) (f : ColumnFunction) → IsStateFor (length rows) (state_kind_by fields (Some index) f) (state_over f (filter (filter_at filters index) rows))
  kept-fits index f =
      let keeps = filter_at filters index in
      over-fits fields (length rows) (filter keeps rows) (filter-le keeps rows) (all-filter (Fits fields) keeps rows fit) index f

  state-fits : (index : Option ℕ) (f : ColumnFunction) → IsStateFor (length rows) (state_kind_by fields index f) (state_by (option_map (filter_at filters) index) f rows)
  state-fits None function.CountRows = tt
  state-fits None (function.Count place) = all-fits (function.Count place)
  state-fits None (function.CountDistinct place) = all-fits (function.CountDistinct place)
  state-fits None (function.Sum place) = all-fits (function.Sum place)
  state-fits None (function.Min place) = all-fits (function.Min place)
  state-fits None (function.Max place) = all-fits (function.Max place)
  state-fits None (function.Avg place) = all-fits (function.Avg place)
  state-fits (Some index) f = kept-fits index f

  all-states-fit : (functions : List FilteredFunction) → AreStatesFor (length rows) (map (state_kind fields) functions) (map (λ f. function_state f rows) (aggregates_of filters functions))
  all-states-fit [] = tt
  all-states-fit (f ∷ functions) = (state-fits f.filter f.function, all-states-fit functions)

-- ---- the keys and the states of records

key-fits : (fields : List Field) (set : List ℕ) (row : Record) → Fits fields row → IsKeyFor (map (type_at fields) set) (project set row)
key-fits fields [] row fits = tt
key-fits fields (place ∷ set) row fits = (held-at fields place row fits, key-fits fields set row fits)

projected-fit : (fields : List Field) (set : List ℕ) (rows : List Record) → AllByRecursion (Fits fields) rows → AllByRecursion (IsKeyFor (map (type_at fields) set)) (map (project set) rows)
projected-fit fields set [] fit = tt
projected-fit fields set (row ∷ rows) fit = (key-fits fields set row fit.0, projected-fit fields set rows fit.1)

-- the keys of records have values that their columns hold
pub keys-fit : (fields : List Field) (set : List ℕ) (rows : List Record) → AllByRecursion (Fits fields) rows → AllByRecursion (IsKeyFor (map (type_at fields) set)) (keys set rows)
keys-fit fields [] rows fit = (tt, tt)
keys-fit fields (place ∷ set) rows fit =
    all-distinct (IsKeyFor (map (type_at fields) (place ∷ set))) same_key (map (project (place ∷ set)) rows) (projected-fit fields (place ∷ set) rows fit)

-- the states over records are those of a group of so many members
pub states-fit : (fields : List Field) (q : Query) (rows : List Record) → AllByRecursion (Fits fields) rows
    → AreStatesFor (length rows) (map (state_kind fields) (indexed_functions fields q)) (map (λ f. function_state f rows) (aggregate_functions fields q))
states-fit fields q rows fit =
    subst (λ (fs : List AggregateFunction). AreStatesFor (length rows) (map (state_kind fields) (indexed_functions fields q)) (map (λ f. function_state f rows) fs)) (bound-functions (plan_of fields q))
    (all-states-fit fields (filter_tests (plan_of fields q)) rows fit (indexed_functions fields q))
