-- A table as the list of its groups, by ascending keys.
use Rattle.std.specs.Prelude.{◌≡◌, ◌+◌, ◌≤◌, ⊤, ℕ, All, List, ◌∷◌, Option, None, map, []}
use Rattle.std.specs.declared.cmp.Ordering.{Ordering}
use Rattle.std.specs.declared.cmp.Ordering.TheVariants.{Less}
use Rattle.std.specs.FinMap as fin
use Rattle.std.specs.FinSet as set
use Rattle.std.specs.List.{AllZip}
use Rattle.semantics.specs.Columns.{Field}
use Rattle.semantics.specs.Groups.{Key, key_order}
use Rattle.semantics.specs.Names.{kind_at}
use Rattle.semantics.specs.Values.{Datum, value_order}
use Rattle.semantics.specs.declared.function.ColumnFunction.{ColumnFunction}
use Rattle.semantics.specs.declared.function.ColumnFunction.TheVariants as function
use Rattle.query_resolve.specs.declared.function.FilteredFunction.{FilteredFunction}
use Rattle.semantics.specs.GroupStates.{different_values, EntryForm, FunctionState}
use Rattle.semantics.specs.GroupStates as state
use Rattle.group_tables.specs.Fitting.{IsHeld}
use Rattle.group_tables.specs.Accumulator.{AccumulatorState, nothing, counted, summed, averaged, collected, lowest, highest, IsSumOf}
use Rattle.group_tables.specs.Group.{GroupState}
use Rattle.group_tables.specs.Table.{Contents, IsCounted}
use Rattle.group_tables.specs.Typed.{IsKeyOf, IsTypedTable}
use Rattle.group_tables.specs.Values.{Values}

-- ---- what a table gives

-- The values of a set, ascending.
abbrev pub ascending_values : Values → List Datum
ascending_values values = different_values (set.items values)

-- What an accumulator keeps, as a plain value.
abbrev pub plain_state : AccumulatorState → FunctionState
plain_state nothing = state.rows
plain_state (counted n) = state.counted n
plain_state (summed s n) = state.summed s n
plain_state (averaged s n) = state.summed s n
plain_state (collected values) = state.collected (ascending_values values)
plain_state (lowest d) = state.extreme d
plain_state (highest d) = state.extreme d

-- What is kept of a group, with its key.
abbrev pub entry_at : Key × GroupState → EntryForm
entry_at e = record { key = e.0; members = e.1.lines; states = map plain_state e.1.parts }

-- The groups of a table, by ascending keys.
abbrev pub table_entries : Contents → List EntryForm
table_entries table = map entry_at (fin.entries table)

-- ---- what a table takes

-- Each thing is before the next one.
abbrev pub IsAscending : {X : Type 0} → (X → X → Ordering) → List X → Type 0
IsAscending order [] = ⊤
IsAscending order (x ∷ []) = ⊤
IsAscending order (x ∷ y ∷ ys) = (order x y ≡ Less) × IsAscending order (y ∷ ys)

-- The state of a COUNT(*) without FILTER, which keeps nothing: its count is the number of members.
abbrev pub IsRowsState : FunctionState → Type 0
IsRowsState state.rows = ⊤
IsRowsState s = ⊥

-- The state of a COUNT: at most so many members.
abbrev pub IsCountState : ℕ → FunctionState → Type 0
IsCountState members (state.counted n) = n ≤ members
IsCountState members s = ⊥

-- The state of a SUM or an AVG: how many numbers of 64 bits were added, one of a member at most,
-- and a sum that so many can have
abbrev pub IsSumState : ℕ → FunctionState → Type 0
IsSumState members (state.summed s n) = (n ≤ members) × IsSumOf n s
IsSumState members s = ⊥

-- The state of a MIN or a MAX: a value.
abbrev pub IsExtremeState : FunctionState → Type 0
IsExtremeState (state.extreme d) = ⊤
IsExtremeState s = ⊥

-- The state of a COUNT DISTINCT: different values, ascending.
abbrev pub IsDistinctState : FunctionState → Type 0
IsDistinctState (state.collected values) = IsAscending value_order values
IsDistinctState s = ⊥

-- a state of the form that a set function has, over at most so many members
abbrev pub HasFormOver : ColumnFunction → ℕ → FunctionState → Type 0
HasFormOver function.CountRows members s = IsCountState members s
HasFormOver (function.Count place) members s = IsCountState members s
HasFormOver (function.CountDistinct place) members s = IsDistinctState s
HasFormOver (function.Sum place) members s = IsSumState members s
HasFormOver (function.Min place) members s = IsExtremeState s
HasFormOver (function.Max place) members s = IsExtremeState s
HasFormOver (function.Avg place) members s = IsSumState members s

-- The same with a FILTER or without one; without one COUNT(*) keeps nothing.
abbrev pub HasFormBy : Option ℕ → ColumnFunction → ℕ → FunctionState → Type 0
HasFormBy None function.CountRows members s = IsRowsState s
HasFormBy filter f members s = HasFormOver f members s

-- The same of a set function with the index of its FILTER.
abbrev pub IsStateFor : FilteredFunction → ℕ → FunctionState → Type 0
IsStateFor f members s = HasFormBy f.filter f.function members s

-- Each of the states has the form of its set function.
abbrev pub AreStatesFor : List FilteredFunction → ℕ → List FunctionState → Type 0
AreStatesFor functions members states = AllZip (λ f s. IsStateFor f members s) functions states

-- The states of a group have the forms of the set functions over its members.
abbrev pub IsEntryFor : List FilteredFunction → EntryForm → Type 0
IsEntryFor functions entry = AreStatesFor functions entry.members entry.states

-- a value that the column of a MIN or a MAX holds; of the other set functions none is asked
abbrev pub IsExtremeOf : List Field → ColumnFunction → FunctionState → Type 0
IsExtremeOf fields (function.Min place) (state.extreme d) = IsHeld (kind_at fields place) d
IsExtremeOf fields (function.Max place) (state.extreme d) = IsHeld (kind_at fields place) d
IsExtremeOf fields f s = ⊤

-- a group has a key of the columns of the set, and least and greatest values that their columns
-- hold
pub record IsTypedEntry (fields : List Field) (set : List ℕ) (functions : List FilteredFunction) (entry : EntryForm) : Type 0 where
  pub key : IsKeyOf fields set entry.key
  pub states : AllZip (λ f s. IsExtremeOf fields f.function s) functions entry.states

-- The keys of all groups are before a key.
abbrev pub IsBehind : Key → List EntryForm → Type 0
IsBehind key entries = All (λ entry. key_order entry.key key ≡ Less) entries

-- Where the groups of a table have at most so many members together, those of the table with one
-- group more have at most so many and the members of this one
abbrev pub CountsEntry : List FilteredFunction → EntryForm → Contents → Contents → Type 0
CountsEntry functions entry old new = (most : ℕ) → IsCounted most functions old → IsCounted (most + entry.members) functions new

-- Where a table is of the types of the columns and the set functions, and the group is, the table
-- with this group more is
abbrev pub TypesEntry : List FilteredFunction → EntryForm → Contents → Contents → Type 0
TypesEntry functions entry old new =
    (fields : List Field) (set : List ℕ)
    → IsTypedTable fields set functions old → IsTypedEntry fields set functions entry → IsTypedTable fields set functions new
