-- The values that stand for the groups of records can be written.
use Rattle.std.proofs.Common.{◌<◌, ◌^◌, ℕ, zero, suc, ℤ, pos, negsuc, Bool, true, false, not, List, [], ◌∷◌, length, map, Option, Some, None, refl, arith}
use Rattle.std.proofs.lemmas.Bool.{lt-ltb}
use Rattle.std.proofs.lemmas.Int.{ints}
use Rattle.std.specs.Int.{w64}
use Rattle.std.specs.List.{AllByRecursion, filter, flat_map, list_all, slice_index_or}
use Rattle.std.specs.Ordering.{is_gt, is_lt}
use Rattle.std.specs.Prelude.{FitsSigned, IsTrue}
use Rattle.semantics.specs.Aggregates.{AggregateFunction, column_numbers, column_values, is_non_null, same_value, total}
use Rattle.semantics.specs.Columns.{Field}
use Rattle.semantics.specs.GroupStates.{EntryForm, FunctionState, entries_over, entry_over, function_state, state_by, state_over, different_values}
use Rattle.semantics.specs.Groups.{Key, Record, key_order, keys, members, project, same_key, value_at}
use Rattle.semantics.specs.Lists.{distinct}
use Rattle.semantics.specs.Lists.{sorted_by}
use Rattle.semantics.specs.Parts.{group_values, groups_values, state_values}
use Rattle.semantics.specs.Records.{Fits, Holds}
use Rattle.semantics.specs.Values.{Datum, boolean, whole, text, null, value_order}
use Rattle.semantics.specs.declared.function.ColumnFunction.{ColumnFunction}
use Rattle.semantics.specs.declared.function.ColumnFunction.TheVariants as function
use Rattle.semantics.specs.declared.kind.Kind.{Kind}
use Rattle.semantics.specs.declared.kind.Kind.TheVariants as kind
use Rattle.tables.proofs.Bags.{all-append, all-distinct, all-filter, find-such}
use Rattle.part_lines.specs.Texts.{fits_128_bits}
use Rattle.part_lines.specs.Known.{IsSumOf, IsWritable}
use Rattle.parts.proofs.FrontValues.{whole-writable}
use Rattle.parts.proofs.RecordTexts.{IsShort, TextIs}
use Rattle.parts.proofs.Lists.{all-ordered, filter-le}
use Rattle.parts.proofs.RecordStates.{different-le, summed-fits, values-few}

-- ---- what holds of each thing of a list holds of each thing of lists made from it

module _ {X : Type 0} (P : X → Type 0) where
  -- what stands at a place is of the list, or else the other thing
  at-place : (xs : List X) (place : ℕ) (other : X) → P other → AllByRecursion P xs → P (slice_index_or xs place other)
  at-place [] place other without all = without
  at-place (x ∷ xs) zero other without all = all.0
  at-place (x ∷ xs) (suc place) other without all = at-place xs place other without all.1

  all-map : {Y : Type 0} (f : Y → X) (ys : List Y) (Q : Y → Type 0) → ((y : Y) → Q y → P (f y)) → AllByRecursion Q ys → AllByRecursion P (map f ys)
  all-map f [] Q each all = tt
  all-map f (y ∷ ys) Q each all = (each y all.0, all-map f ys Q each all.1)

  -- of each of these things there are values such as these
  all-flat_map : {Y : Type 0} (f : Y → List X) (ys : List Y) → AllByRecursion (λ y. AllByRecursion P (f y)) ys → AllByRecursion P (flat_map f ys)
  all-flat_map f [] all = tt
  all-flat_map f (y ∷ ys) all = all-append P (f y) (flat_map f ys) all.0 (all-flat_map f ys all.1)

-- ---- numbers

-- a sum of fewer than 2^63 numbers of 64 bits has 128 bits
sum-fits : (n : ℕ) (s : ℤ) → n < 2 ^ 63 → IsSumOf n s → IsTrue (fits_128_bits s)
sum-fits n (pos m) few sum = lt-ltb m (2 ^ 127) (omega (arith, ints, few, sum.1))
sum-fits n (negsuc m) few sum = lt-ltb m (2 ^ 127) (omega (arith, ints, few, sum.0))

-- ---- values of columns

null-writable : IsWritable null
null-writable = (refl, omega arith)

value-at-writable : (place : ℕ) (row : Record) → AllByRecursion IsWritable row → IsWritable (value_at place row)
value-at-writable place row all = at-place IsWritable row place null null-writable all

projected-writable : (set : List ℕ) (row : Record) → AllByRecursion IsWritable row → AllByRecursion IsWritable (project set row)
projected-writable [] row all = tt
projected-writable (place ∷ set) row all = (value-at-writable place row all, projected-writable set row all)

-- ---- values and records

int-fits : (z : ℤ) → FitsSigned w64 z → IsTrue (fits_128_bits z)
int-fits (pos n) fits = let f = fits.sfits in lt-ltb n (2 ^ 127) (omega (arith, f))
int-fits (negsuc n) fits = let f = fits.sfits in lt-ltb n (2 ^ 127) (omega (arith, f))

-- a value that a column holds is writable, if its text is short
pub value-writable : (k : Kind) (d : Datum) → Holds k d → TextIs IsShort d → IsWritable d
value-writable k null held short = null-writable
value-writable k (text s) held short = short
value-writable k (boolean true) held short = (refl, omega arith)
value-writable k (boolean false) held short = (refl, omega arith)
value-writable kind.Int (whole n) held short = whole-writable n (int-fits n held)
value-writable kind.Text (whole n) held short = absurd held
value-writable kind.Bool (whole n) held short = absurd held

-- so are the values of a record
pub record-writable : (fields : List Field) (row : List Datum) → Fits fields row → AllByRecursion (TextIs IsShort) row → AllByRecursion IsWritable row
record-writable [] [] fits short = tt
record-writable [] (d ∷ row) fits short = absurd fits
record-writable (f ∷ fields) [] fits short = absurd fits
record-writable (f ∷ fields) (d ∷ row) fits short = (value-writable f.kind d fits.0 short.0, record-writable fields row fits.1 short.1)

-- ---- the groups of records

-- a count of fewer than 2^63 things
count-writable : (n : ℕ) → n < 2 ^ 63 → IsWritable (whole (pos n))
count-writable n few = whole-writable (pos n) (lt-ltb n (2 ^ 127) (omega (arith, few)))

module _ (fields : List Field) where
  -- fewer than 2^63 records that fit the columns, of writable values
  record AreWritable (rows : List Record) : Type 0 where
    few : length rows < 2 ^ 63
    fit : AllByRecursion (Fits fields) rows
    writable : AllByRecursion (λ (row : Record). AllByRecursion IsWritable row) rows

  filtered : (test : Record → Bool) (rows : List Record) → AreWritable rows → AreWritable (filter test rows)
  filtered test rows h = record {
    few = omega (arith, filter-le test rows, h.few);
    fit = all-filter (Fits fields) test rows h.fit;
    writable = all-filter (λ (row : Record). AllByRecursion IsWritable row) test rows h.writable;
  }

  column-writable : (place : ℕ) (rows : List Record) → AreWritable rows → AllByRecursion IsWritable (column_values place rows)
  column-writable place rows h =
      all-filter IsWritable is_non_null (map (value_at place) rows)
      (all-map IsWritable (value_at place) rows (λ (row : Record). AllByRecursion IsWritable row) (value-at-writable place) h.writable)

  sum-writable : (place : ℕ) (rows : List Record) → AreWritable rows → AllByRecursion IsWritable (state_values (state_over (function.Sum place) rows))
  sum-writable place rows h =
      let sum = summed-fits fields (length rows) rows (omega arith) h.fit place in
      let n : ℕ = length (column_numbers place rows) in
      let few : n < 2 ^ 63 = omega (arith, sum.0, h.few) in
      (whole-writable (total (column_numbers place rows)) (sum-fits n (total (column_numbers place rows)) few sum.1), (count-writable n few, tt))

  state-writable : (f : ColumnFunction) (rows : List Record) → AreWritable rows → AllByRecursion IsWritable (state_values (state_over f rows))
  state-writable function.CountRows rows h = (count-writable (length rows) h.few, tt)
  state-writable (function.Count place) rows h = (count-writable (length (column_values place rows)) (omega (arith, values-few fields (length rows) rows (omega arith) h.fit place, h.few)), tt)
  state-writable (function.CountDistinct place) rows h =
      let ds : List Datum = column_values place rows in (
        count-writable (length (different_values ds)) (omega (arith, different-le ds, values-few fields (length rows) rows (omega arith) h.fit place, h.few)),
        all-ordered value_order IsWritable (distinct same_value ds) (all-distinct IsWritable same_value ds (column-writable place rows h)),
      )
  state-writable (function.Sum place) rows h = sum-writable place rows h
  state-writable (function.Min place) rows h =
      let ds : List Datum = column_values place rows in
      (find-such IsWritable (λ x. list_all (λ y. not (is_lt (value_order y x))) ds) ds null null-writable (column-writable place rows h), tt)
  state-writable (function.Max place) rows h =
      let ds : List Datum = column_values place rows in
      (find-such IsWritable (λ x. list_all (λ y. not (is_gt (value_order y x))) ds) ds null null-writable (column-writable place rows h), tt)
  state-writable (function.Avg place) rows h = sum-writable place rows h

  state-by-writable : (keeps : Option (Record → Bool)) (f : ColumnFunction) (rows : List Record) → AreWritable rows → AllByRecursion IsWritable (state_values (state_by keeps f rows))
  state-by-writable None function.CountRows rows h = tt
  state-by-writable None (function.Count place) rows h = state-writable (function.Count place) rows h
  state-by-writable None (function.CountDistinct place) rows h = state-writable (function.CountDistinct place) rows h
  state-by-writable None (function.Sum place) rows h = state-writable (function.Sum place) rows h
  state-by-writable None (function.Min place) rows h = state-writable (function.Min place) rows h
  state-by-writable None (function.Max place) rows h = state-writable (function.Max place) rows h
  state-by-writable None (function.Avg place) rows h = state-writable (function.Avg place) rows h
  state-by-writable (Some keeps) f rows h = state-writable f (filter keeps rows) (filtered keeps rows h)

  states-writable : (functions : List AggregateFunction) (rows : List Record) → AreWritable rows
      → AllByRecursion (λ s. AllByRecursion IsWritable (state_values s)) (map (λ f. function_state f rows) functions)
  states-writable [] rows h = tt
  states-writable (f ∷ functions) rows h = (state-by-writable f.filter f.function rows h, states-writable functions rows h)

  keys-writable : (set : List ℕ) (rows : List Record) → AreWritable rows → AllByRecursion (λ (key : Key). AllByRecursion IsWritable key) (keys set rows)
  keys-writable [] rows h = (tt, tt)
  keys-writable (place ∷ places) rows h =
      let set : List ℕ = place ∷ places in
      all-distinct (λ (key : Key). AllByRecursion IsWritable key) same_key (map (project set) rows)
      (all-map (λ (key : Key). AllByRecursion IsWritable key) (project set) rows (λ (row : Record). AllByRecursion IsWritable row) (λ row all. projected-writable set row all) h.writable)

  group-writable : (set : List ℕ) (functions : List AggregateFunction) (rows : List Record) (key : Key) → AreWritable rows → AllByRecursion IsWritable key
      → AllByRecursion IsWritable (group_values (entry_over set functions rows key))
  group-writable set functions rows key h here =
      let group : List Record = members set key rows in
      let kept : AreWritable group = filtered (λ row. same_key key (project set row)) rows h in
      let states : List FunctionState = map (λ f. function_state f group) functions in
      all-append IsWritable key (whole (pos (length group)) ∷ flat_map state_values states) here
      (count-writable (length group) kept.few, all-flat_map IsWritable state_values states (states-writable functions group kept))

  -- the values of the groups of records are writable
  pub groups-writable : (set : List ℕ) (functions : List AggregateFunction) (rows : List Record) → length rows < 2 ^ 63
      → AllByRecursion (Fits fields) rows → AllByRecursion (λ row. AllByRecursion IsWritable row) rows → AllByRecursion IsWritable (groups_values (entries_over set functions rows))
  groups-writable set functions rows few fit writable =
      let h : AreWritable rows = record { few = few; fit = fit; writable = writable } in
      all-flat_map IsWritable group_values (entries_over set functions rows)
      (all-map (λ (g : EntryForm). AllByRecursion IsWritable (group_values g)) (entry_over set functions rows) (sorted_by key_order (keys set rows)) (λ (key : Key). AllByRecursion IsWritable key)
      (λ key here. group-writable set functions rows key h here)
      (all-ordered key_order (λ (key : Key). AllByRecursion IsWritable key) (keys set rows) (keys-writable set rows h)))
