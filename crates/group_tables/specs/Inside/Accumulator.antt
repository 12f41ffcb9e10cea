-- What an accumulator keeps of the members of a group: of COUNT(*) without FILTER nothing, since
-- the number of records is kept beside, and else counts, sums, the different values, the least or
-- the greatest one.
use Rattle.std.specs.Prelude.{ℕ, ◌+◌, ◌^◌, ◌<◌, ◌≤◌, zero, suc, pos, ◌+ℤ◌, Bool, true, false, ⊤, Option, Some, None, FitsSigned, List, ◌∷◌, length, slice_index_or, if◌then◌else◌, ℤ, []}
use Rattle.std.specs.FinSet as set
use Rattle.std.specs.Int.{w128}
use Rattle.std.specs.Option.{option_map_or}
use Rattle.semantics.specs.Values.{Datum, whole, null, value_order}
use Rattle.values.specs.Datum.{datum_of}
use Rattle.semantics.specs.declared.function.ColumnFunction.{ColumnFunction}
use Rattle.semantics.specs.declared.function.ColumnFunction.TheVariants as function
use Rattle.semantics.specs.Groups.{Record, value_at}
use Rattle.semantics.specs.Aggregates.{non_null, numbers, CellValue, plain, ratio, total}
use Rattle.group_tables.specs.Values.{set_of, falling_order, first_by}
use Rattle.group_tables.specs.declared.accumulator.Accumulator.{Accumulator}
use Rattle.group_tables.specs.declared.accumulator.Accumulator.TheVariants as accumulator
use Rattle.group_tables.specs.Accumulator.{AccumulatorState, state_over, state_counted, IsSumOf, nothing, counted, summed, averaged, collected, lowest, highest}

-- What is kept of no record for a set function with a FILTER, whichever it is, or with none.
abbrev pub no_state : Option ℕ → ColumnFunction → AccumulatorState
no_state None f = state_over f []
no_state (Some index) f = state_counted f []

-- The place of the column that a set function takes; COUNT(*) takes none.
abbrev pub argument_place : ColumnFunction → Option ℕ
argument_place function.CountRows = None
argument_place (function.Count place) = Some place
argument_place (function.CountDistinct place) = Some place
argument_place (function.Sum place) = Some place
argument_place (function.Min place) = Some place
argument_place (function.Max place) = Some place
argument_place (function.Avg place) = Some place

-- What is kept after one more value.
abbrev pub with_value : AccumulatorState → Datum → AccumulatorState
with_value nothing d = nothing
with_value (counted n) d = counted (n + length (non_null (d ∷ [])))
with_value (summed s n) d = summed (s +ℤ total (numbers (d ∷ []))) (n + length (numbers (d ∷ [])))
with_value (averaged s n) d = averaged (s +ℤ total (numbers (d ∷ []))) (n + length (numbers (d ∷ [])))
with_value (collected s) d = collected (set.union s (set_of (non_null (d ∷ []))))
with_value (lowest k) d = lowest (first_by value_order k d)
with_value (highest k) d = highest (first_by falling_order k d)

-- What is kept after one more record, where the number of records is kept.
abbrev pub with_count : AccumulatorState → AccumulatorState
with_count (counted n) = counted (n + 1)
with_count k = k

-- What is kept for a set function after one more record that it takes.
abbrev pub with_record : ColumnFunction → AccumulatorState → Record → AccumulatorState
with_record f k row = option_map_or (λ place. with_value k (value_at place row)) (argument_place f) (with_count k)

-- Whether a record is kept by the filter with this index, by the marks of all filters: true where
-- the filter keeps it; without FILTER each is
abbrev pub is_marked : List Bool → Option ℕ → Bool
is_marked marks None = true
is_marked marks (Some index) = slice_index_or marks index false

-- What is kept for a set function after one more record, which its FILTER keeps or not.
abbrev pub with_member : Bool → ColumnFunction → AccumulatorState → Record → AccumulatorState
with_member kept f k row = if kept then with_record f k row else k

-- The value of the function over a group of so many records.
abbrev pub summary : ℕ → AccumulatorState → CellValue
summary lines nothing = plain (whole (pos lines))
summary lines (counted n) = plain (whole (pos n))
summary lines (summed s zero) = plain null
summary lines (summed s (suc n)) = plain (whole s)
summary lines (averaged s zero) = plain null
summary lines (averaged s (suc n)) = ratio s (suc n)
summary lines (collected s) = plain (whole (pos (set.len s)))
summary lines (lowest k) = plain k
summary lines (highest k) = plain k

-- ---- sizes

-- The accumulator has room for it.
abbrev pub HasRoom : AccumulatorState → Type 0
HasRoom nothing = ⊤
HasRoom (counted n) = n < 2 ^ 64
HasRoom (summed s n) = (n < 2 ^ 64) × FitsSigned w128 s
HasRoom (averaged s n) = (n < 2 ^ 64) × FitsSigned w128 s
HasRoom (collected s) = ⊤
HasRoom (lowest k) = ⊤
HasRoom (highest k) = ⊤

-- What is kept of at most so many records of numbers of 64 bits.
abbrev pub IsWithin : ℕ → AccumulatorState → Type 0
IsWithin lines nothing = ⊤
IsWithin lines (counted n) = n ≤ lines
IsWithin lines (summed s n) = (n ≤ lines) × IsSumOf lines s
IsWithin lines (averaged s n) = (n ≤ lines) × IsSumOf lines s
IsWithin lines (collected s) = ⊤
IsWithin lines (lowest k) = ⊤
IsWithin lines (highest k) = ⊤

-- It is no count and no sum, so that nothing bounds it.
abbrev pub IsUnbounded : AccumulatorState → Type 0
IsUnbounded nothing = ⊤
IsUnbounded (counted n) = ⊥
IsUnbounded (summed s n) = ⊥
IsUnbounded (averaged s n) = ⊥
IsUnbounded (collected s) = ⊤
IsUnbounded (lowest k) = ⊤
IsUnbounded (highest k) = ⊤

-- ---- the accumulators of the code

-- What an accumulator keeps.
abbrev pub state_in : Accumulator → AccumulatorState
state_in accumulator.Rows = nothing
state_in (accumulator.Count n) = counted n
state_in (accumulator.Sum t) = summed t.sum t.count
state_in (accumulator.Average t) = averaged t.sum t.count
state_in (accumulator.Distinct s) = collected s
state_in (accumulator.Min value) = lowest (datum_of value)
state_in (accumulator.Max value) = highest (datum_of value)
