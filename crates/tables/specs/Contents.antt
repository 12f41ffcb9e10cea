-- What a partial result contains, as plain values.
use Rattle.std.specs.Prelude.{◌≡◌, ◌≤◌, ◌+◌, ℕ, List, ◌∷◌, ◌++◌, length, []}
use Rattle.semantics.specs.Sets.{grouping_places}
use Rattle.semantics.specs.declared.line_fault.LineFault.{LineFault}
use Rattle.semantics.specs.GroupStates.{EntryForm}
use Rattle.semantics.specs.Parts.{ContentsForm}
use Rattle.values.specs.GroupStates.{entries_of}
use Rattle.query_plan.specs.Planned.{PlannedQuery}
use Rattle.query_resolve.specs.Functions.{indexed_functions}
use Rattle.group_tables.specs.Entries.{IsTypedEntry, table_entries}
use Rattle.group_tables.specs.Table.{IsCounted}
use Rattle.tables.specs.declared.contents.PartialContents.{PartialContents}
use Rattle.tables.specs.Partials.{HaveOneShape, note_of_one}
use Rattle.tables.specs.States.{PartialState}

-- Those that a value of the code is.
abbrev pub contents_of : PartialContents → ContentsForm
contents_of contents = record { lines = contents.lines; refused = contents.refused.items; groups = entries_of contents.groups.items }

-- ---- a partial result that is put together

-- The groups of a partial result, by ascending keys.
abbrev pub groups_in : PartialState → List EntryForm
groups_in partial = table_entries partial.table

-- They have at most so many members together.
abbrev pub HasMembersWithin : ℕ → PartialState → Type 0
HasMembersWithin most partial = IsCounted most partial.functions partial.table

-- With so many members more they have at most as many as there are lines.
abbrev pub HasRoomFor : ℕ → PartialState → Type 0
HasRoomFor members partial = (most : ℕ) × HasMembersWithin most partial × (most + members ≤ partial.lines)

-- a partial result has so many lines, these refused ones, and the note of one piece, of index 0,
-- that has them
pub record HasRefusals (count : ℕ) (faults : List (ℕ × LineFault)) (partial : PartialState) : Type 0 where
  pub lines : partial.lines ≡ count
  pub refused : partial.refused ≡ length faults
  pub notes : partial.notes ≡ note_of_one count faults ∷ []

-- a partial result has the contents, as one piece
pub record HasContents (partial : PartialState) (contents : ContentsForm) : Type 0 where
  pub refusals : HasRefusals contents.lines contents.refused partial
  pub groups : groups_in partial ≡ contents.groups

-- a partial result is another one, but for its groups
pub record DiffersInGroups (before partial : PartialState) : Type 0 where
  pub shape : HaveOneShape before partial
  pub lines : partial.lines ≡ before.lines
  pub refused : partial.refused ≡ before.refused
  pub notes : partial.notes ≡ before.notes

-- a partial result has one group more than another, behind the others
abbrev pub HasGroupBehind : PartialState → EntryForm → PartialState → Type 0
HasGroupBehind before group partial = groups_in partial ≡ groups_in before ++ group ∷ []

-- a group of the types of a plan's grouping columns and set functions
abbrev pub IsTypedEntryUnder : PlannedQuery → EntryForm → Type 0
IsTypedEntryUnder plan group = IsTypedEntry plan.fields (grouping_places plan.fields plan.query) (indexed_functions plan.fields plan.query) group
