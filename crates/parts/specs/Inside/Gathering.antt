-- The groups of a part, put to a partial result as they come.
use Rattle.std.specs.Prelude.{◌≡◌, ◌+◌, ◌≤◌, ⊤, ℕ, List, ◌∷◌, ◌++◌, Option, Some, None, []}
use Rattle.values.specs.GroupStates.{entry_of}
use Rattle.semantics.specs.GroupStates.{EntryForm}
use Rattle.values.specs.declared.group_entry.GroupEntry.{GroupEntry}
use Rattle.query_plan.specs.Planned.{PlannedQuery}
use Rattle.query_resolve.specs.Functions.{indexed_functions}
use Rattle.semantics.specs.Groups.{Key}
use Rattle.semantics.specs.declared.line_fault.LineFault.{LineFault}
use Rattle.tables.specs.Contents.{HasMembersWithin, HasRefusals, IsTypedEntryUnder, groups_in}
use Rattle.semantics.specs.Parts.{ContentsForm}
use Rattle.tables.specs.Notes.{Noted}
use Rattle.tables.specs.Sound.{IsSoundUnder}
use Rattle.tables.specs.States.{PartialState}
use Rattle.group_tables.specs.Entries.{IsBehind, IsEntryFor}
use Rattle.parts.specs.declared.gather.Gathering.{Gathering}

-- The key of a group.
abbrev pub key_of : GroupEntry → Key
key_of group = (entry_of group).key

-- The groups of a result, and behind them the one that was read last, where it is not among them.
abbrev pub last_of : Option GroupEntry → List EntryForm
last_of None = []
last_of (Some group) = entry_of group ∷ []

abbrev pub groups_of : Gathering → List EntryForm
groups_of so_far = groups_in so_far.partial ++ last_of so_far.last

-- How many members the last group has.
abbrev pub last_members : Option GroupEntry → ℕ
last_members None = 0
last_members (Some group) = group.members

-- a group is behind those of a result, and of the form and the types that a plan asks
pub record IsNextOf (plan : PlannedQuery) (partial : PartialState) (group : EntryForm) : Type 0 where
  pub behind : IsBehind group.key (groups_in partial)
  pub form : IsEntryFor (indexed_functions plan.fields plan.query) group
  pub typed : IsTypedEntryUnder plan group

abbrev pub IsLastOf : PlannedQuery → PartialState → Option GroupEntry → Type 0
IsLastOf plan partial None = ⊤
IsLastOf plan partial (Some group) = IsNextOf plan partial (entry_of group)

-- A result is one that a plan can finish; the last group that was read can be put to it, and with
-- it and so many members more the groups have at most as many members as there are lines.
pub record CanHold (plan : PlannedQuery) (partial : PartialState) (last : Option GroupEntry) (left : ℕ) : Type 0 where
  pub sound : IsSoundUnder plan partial
  pub is_next : IsLastOf plan partial last
  pub members : ℕ
  pub within : HasMembersWithin members partial
  pub room : members + last_members last + left ≤ partial.lines

-- So it is with what was gathered so far, before the first group of which the result has none.
pub record IsGathering (plan : PlannedQuery) (so_far : Gathering) : Type 0 where
  pub can : CanHold plan so_far.partial so_far.last so_far.left
  pub first : so_far.last ≡ None → groups_in so_far.partial ≡ []

-- ---- what a result of one piece contains

-- The refused lines of the first note.
abbrev pub first_refused : List Noted → List (ℕ × LineFault)
first_refused [] = []
first_refused (note ∷ notes) = note.refused

abbrev pub refused_in : PartialState → List (ℕ × LineFault)
refused_in partial = first_refused partial.notes

-- So many lines, these refused ones, and these groups.
abbrev pub contents_in : PartialState → ContentsForm
contents_in partial = record { lines = partial.lines; refused = refused_in partial; groups = groups_in partial }

-- a result of one piece, as a part gives it
abbrev pub IsOfOnePiece : PartialState → Type 0
IsOfOnePiece partial = HasRefusals partial.lines (refused_in partial) partial

-- What was gathered so far, with the last group.
abbrev pub contents_of : Gathering → ContentsForm
contents_of so_far = record { lines = so_far.partial.lines; refused = refused_in so_far.partial; groups = groups_of so_far }
