-- What is kept of a group: the number of its records, and for each set function what its
-- accumulator keeps.
use Rattle.std.specs.Prelude.{Bool, ℕ, ◌+◌, List, ◌∷◌, map, []}
use Rattle.std.specs.List.{AllByRecursion}
use Rattle.query_resolve.specs.declared.function.FilteredFunction.{FilteredFunction}
use Rattle.semantics.specs.Groups.{Record, Key}
use Rattle.semantics.specs.ResultRows.{GroupSummary}
use Rattle.group_tables.specs.Accumulator.{AccumulatorState}
use Rattle.group_tables.specs.Inside.Accumulator.{no_state, is_marked, with_member, summary, IsWithin}
use Rattle.group_tables.specs.Group.{GroupState}

-- What is kept of a group without members.
abbrev pub no_group : List FilteredFunction → GroupState
no_group functions = record { lines = 0; parts = map (λ f. no_state f.filter f.function) functions }

-- Each accumulator after one more record, of which the marks say which filters keep it.
abbrev pub all_with_row : List FilteredFunction → List Bool → List AccumulatorState → Record → List AccumulatorState
all_with_row [] marks ks row = ks
all_with_row (f ∷ fs) marks [] row = []
all_with_row (f ∷ fs) marks (k ∷ ks) row = with_member (is_marked marks f.filter) f.function k row ∷ all_with_row fs marks ks row

-- What is kept after one more record, of which the marks say which filters keep it.
abbrev pub with_row : List FilteredFunction → List Bool → GroupState → Record → GroupState
with_row functions marks h row = record { lines = h.lines + 1; parts = all_with_row functions marks h.parts row }

-- No sum is larger than the number of records allows.
abbrev pub IsSound : ℕ → List AccumulatorState → Type 0
IsSound lines parts = AllByRecursion (IsWithin lines) parts

-- The row of what is kept of a group.
abbrev pub state_summary : Key × GroupState → GroupSummary
state_summary e = record { key = e.0; lines = e.1.lines; cells = map (summary e.1.lines) e.1.parts }
