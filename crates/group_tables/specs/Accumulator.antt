-- What an accumulator keeps of the members of a group: of COUNT(*) without FILTER nothing, since
-- the number of records is kept beside, and else counts, sums, the different values, the least or
-- the greatest one.
use Rattle.std.specs.Prelude.{◌≡◌, ℕ, ◌+◌, ◌*◌, ◌^◌, zero, suc, ℤ, pos, ◌+ℤ◌, ◌-ℤ◌, ◌≤ℤ◌, Bool, Option, Some, None, List, length, filter, refl, ◌≤◌}
use Rattle.std.specs.FinSet as set
use Rattle.std.specs.Coded.{Coded, code_by, coded×, coded_ℕ, coded_ℤ}
use Rattle.semantics.specs.Values.{Datum, null, value_order}
use Rattle.semantics.specs.declared.function.ColumnFunction.{ColumnFunction}
use Rattle.semantics.specs.declared.function.ColumnFunction.TheVariants as function
use Rattle.semantics.specs.Groups.{Record}
use Rattle.semantics.specs.Aggregates.{column_values, column_numbers, AggregateFunction, total, minimum, maximum}
use Rattle.group_tables.specs.Coding.{coded_datum}
use Rattle.group_tables.specs.Values.{Values, set_of, falling_order, first_by}

-- What is kept for a set function of each kind.
pub data AccumulatorState : Type 0 where
  nothing : AccumulatorState
  counted : ℕ → AccumulatorState
  summed : ℤ → ℕ → AccumulatorState
  averaged : ℤ → ℕ → AccumulatorState
  collected : set.FinSet value_order → AccumulatorState
  lowest : Datum → AccumulatorState
  highest : Datum → AccumulatorState

-- What is kept for a set function without FILTER of a list of records.
abbrev pub state_over : ColumnFunction → List Record → AccumulatorState
state_over function.CountRows rows = nothing
state_over (function.Count place) rows = counted (length (column_values place rows))
state_over (function.CountDistinct place) rows = collected (set_of (column_values place rows))
state_over (function.Sum place) rows = summed (total (column_numbers place rows)) (length (column_numbers place rows))
state_over (function.Min place) rows = lowest (minimum (column_values place rows))
state_over (function.Max place) rows = highest (maximum (column_values place rows))
state_over (function.Avg place) rows = averaged (total (column_numbers place rows)) (length (column_numbers place rows))

-- What is kept for a set function with FILTER of the records that it keeps: the same, but their
-- number for COUNT(*), as it is not that of all records
abbrev pub state_counted : ColumnFunction → List Record → AccumulatorState
state_counted function.CountRows rows = counted (length rows)
state_counted f rows = state_over f rows

-- What is kept of a list of records for a set function with this FILTER, or with none.
abbrev pub state_by : Option (Record → Bool) → ColumnFunction → List Record → AccumulatorState
state_by None f rows = state_over f rows
state_by (Some keeps) f rows = state_counted f (filter keeps rows)

-- What is kept for a set function of a list of records.
abbrev pub accumulator_state : AggregateFunction → List Record → AccumulatorState
accumulator_state f rows = state_by f.filter f.function rows

-- What is kept of two parts of a group for one function; of different functions nothing.
abbrev pub joint_state : AccumulatorState → AccumulatorState → AccumulatorState
joint_state (counted m) (counted n) = counted (m + n)
joint_state (summed s m) (summed t n) = summed (s +ℤ t) (m + n)
joint_state (averaged s m) (averaged t n) = averaged (s +ℤ t) (m + n)
joint_state (collected s) (collected t) = collected (set.union s t)
joint_state (lowest k) (lowest l) = lowest (first_by value_order k l)
joint_state (highest k) (highest l) = highest (first_by falling_order k l)
joint_state k l = nothing

-- ---- sizes

-- The sum of so many numbers of 64 bits.
abbrev pub IsSumOf : ℕ → ℤ → Type 0
IsSumOf lines s = ((pos 0 -ℤ pos (lines * 2 ^ 63)) ≤ℤ s) × (s ≤ℤ pos (lines * 2 ^ 63))

-- ---- the accumulators of the code

abbrev Fields : Type 0
Fields = ℕ × ((ℤ × ℕ) × (Values × Datum))

abbrev fields : AccumulatorState → Fields
fields nothing = (0, ((pos 0, 0), (set.empty, null)))
fields (counted n) = (1, ((pos 0, n), (set.empty, null)))
fields (summed s n) = (2, ((s, n), (set.empty, null)))
fields (averaged s n) = (3, ((s, n), (set.empty, null)))
fields (collected s) = (4, ((pos 0, 0), (s, null)))
fields (lowest k) = (5, ((pos 0, 0), (set.empty, k)))
fields (highest k) = (6, ((pos 0, 0), (set.empty, k)))

abbrev of_fields : Fields → AccumulatorState
of_fields (zero, ((s, n), (v, k))) = nothing
of_fields (suc zero, ((s, n), (v, k))) = counted n
of_fields (suc (suc zero), ((s, n), (v, k))) = summed s n
of_fields (suc (suc (suc zero)), ((s, n), (v, k))) = averaged s n
of_fields (suc (suc (suc (suc zero))), ((s, n), (v, k))) = collected v
of_fields (suc (suc (suc (suc (suc zero)))), ((s, n), (v, k))) = lowest k
of_fields (suc (suc (suc (suc (suc (suc _))))), ((s, n), (v, k))) = highest k

pub of_fields-fields : (k : AccumulatorState) → of_fields (fields k) ≡ k
of_fields-fields nothing = refl
of_fields-fields (counted n) = refl
of_fields-fields (summed s n) = refl
of_fields-fields (averaged s n) = refl
of_fields-fields (collected s) = refl
of_fields-fields (lowest k) = refl
of_fields-fields (highest k) = refl

abbrev pub coded_accumulator : Coded AccumulatorState
coded_accumulator = code_by Fields (coded× coded_ℕ (coded× (coded× coded_ℤ coded_ℕ) (coded× (set.code coded_datum) coded_datum))) fields of_fields of_fields-fields
