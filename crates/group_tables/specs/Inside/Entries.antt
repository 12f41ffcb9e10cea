-- A table as the list of its groups, by ascending keys.
use Rattle.std.specs.Prelude.{ℕ, ℤ, List, ◌∷◌, []}
use Rattle.semantics.specs.Values.{Datum}
use Rattle.semantics.specs.declared.function.ColumnFunction.{ColumnFunction}
use Rattle.semantics.specs.declared.function.ColumnFunction.TheVariants as function
use Rattle.query_resolve.specs.declared.function.FilteredFunction.{FilteredFunction}
use Rattle.semantics.specs.GroupStates.{EntryForm, FunctionState}
use Rattle.semantics.specs.GroupStates as state
use Rattle.group_tables.specs.Accumulator.{AccumulatorState, nothing, counted, summed, averaged, collected, lowest, highest}
use Rattle.group_tables.specs.Group.{GroupState}
use Rattle.group_tables.specs.Values.{set_of}

-- ---- what is kept of plain values

-- What SUM or AVG keeps: a sum, and how many numbers were added.
abbrev pub kept_sum : ColumnFunction → ℤ → ℕ → AccumulatorState
kept_sum (function.Avg place) s n = averaged s n
kept_sum f s n = summed s n

-- What MIN or MAX keeps: a value.
abbrev pub kept_extreme : ColumnFunction → Datum → AccumulatorState
kept_extreme (function.Max place) d = highest d
kept_extreme f d = lowest d

-- What a set function keeps of a plain state.
abbrev pub kept_state : ColumnFunction → FunctionState → AccumulatorState
kept_state f state.rows = nothing
kept_state f (state.counted n) = counted n
kept_state f (state.summed s n) = kept_sum f s n
kept_state f (state.extreme d) = kept_extreme f d
kept_state f (state.collected values) = collected (set_of values)

-- What each set function keeps of its plain state.
abbrev pub kept_states : List FilteredFunction → List FunctionState → List AccumulatorState
kept_states [] ss = []
kept_states (f ∷ fs) [] = []
kept_states (f ∷ fs) (s ∷ ss) = kept_state f.function s ∷ kept_states fs ss

-- What a table keeps of a group of plain states.
abbrev pub kept_group : List FilteredFunction → EntryForm → GroupState
kept_group functions entry = record { lines = entry.members; parts = kept_states functions entry.states }
