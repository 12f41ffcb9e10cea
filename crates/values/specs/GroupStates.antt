-- What is kept of a group, apart from where it lies in memory.
use Rattle.std.specs.Prelude.{List, map}
use Rattle.semantics.specs.GroupStates.{EntryForm, FunctionState, rows, counted, summed, extreme, collected}
use Rattle.values.specs.Datum.{data_of, datum_of}
use Rattle.values.specs.declared.group_entry.GroupEntry.{GroupEntry}
use Rattle.values.specs.declared.group_entry.State.{State}
use Rattle.values.specs.declared.group_entry.State.TheVariants as state

-- The state that a value of the code is.
abbrev pub state_of : State → FunctionState
state_of state.Rows = rows
state_of (state.Count n) = counted n
state_of (state.Sum s n) = summed s n
state_of (state.Extreme value) = extreme (datum_of value)
state_of (state.Distinct values) = collected (data_of values.items)

-- The states of a list.
abbrev pub states_of : List State → List FunctionState
states_of states = map state_of states

-- The group that a value of the code is.
abbrev pub entry_of : GroupEntry → EntryForm
entry_of entry = record { key = data_of entry.key.items; members = entry.members; states = states_of entry.states.items }

-- The groups of a list.
abbrev pub entries_of : List GroupEntry → List EntryForm
entries_of entries = map entry_of entries
