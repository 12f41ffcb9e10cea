-- What a partial result is: what pieces of an input come to, and what two of them come to together.
-- Of one query partial results are a commutative monoid by `both`, with `none` as its unit; and the
-- result of some pieces and more pieces is `both` of their results (`pieces_law`). So it does not
-- matter which thread, round or machine made a result of which pieces, nor in which order they were
-- put together.
use Rattle.std.specs.Prelude.{◌≡◌, ◌+◌, ℕ, suc, zero, List, ◌∷◌, ◌++◌, length, map, nat_eq, []}
use Rattle.std.specs.List.{IsDistinct}
use Rattle.semantics.specs.declared.line_fault.LineFault.{LineFault}
use Rattle.semantics.specs.Conditions.{kept_records}
use Rattle.semantics.specs.ResultRows.{aggregate_functions, rows_before_having}
use Rattle.semantics.specs.Groups.{Record}
use Rattle.semantics.specs.Lists.{sorted_by}
use Rattle.semantics.specs.Records.{refused_lines, valid_records}
use Rattle.semantics.specs.Sets.{grouping_places, sets_of}
use Rattle.query_plan.specs.Planned.{PlannedQuery}
use Rattle.query_resolve.specs.Functions.{indexed_functions}
use Rattle.group_tables.specs.Bags.{SameBag}
use Rattle.group_tables.specs.Table.{both_tables, table_of}
use Rattle.tables.specs.Functions.{filter_texts}
use Rattle.tables.specs.Notes.{Noted, note_of, note_order, refused_lines_from}
use Rattle.tables.specs.Pieces.{IndexedPiece, IsCutInto, all_lines, records_of, refused_lines_within}
use Rattle.tables.specs.States.{GroupsState, PartialState}

-- ---- of pieces

-- What pieces come to, in whatever order: the grouping sets, the set functions and the filters of
-- the query, the table of all grouping columns over the valid records of all lines of the pieces
-- that WHERE keeps, the numbers of all lines and of all refused lines, and the note of each piece
abbrev pub of_pieces : PlannedQuery → List IndexedPiece → PartialState
of_pieces plan pieces = record {
  sets = sets_of plan.fields plan.query;
  functions = indexed_functions plan.fields plan.query;
  filters = filter_texts plan;
  table = table_of (grouping_places plan.fields plan.query) (aggregate_functions plan.fields plan.query) (kept_records plan.fields plan.query (records_of plan.fields pieces));
  lines = length (all_lines pieces);
  refused = length (refused_lines_within plan.fields pieces);
  notes = sorted_by note_order (map (note_of plan.fields) pieces);
}

-- What no pieces come to.
abbrev pub none : PlannedQuery → PartialState
none plan = of_pieces plan []

-- What one piece comes to.
abbrev pub of_piece : PlannedQuery → IndexedPiece → PartialState
of_piece plan piece = of_pieces plan (piece ∷ [])

-- a partial result stands for pieces where it is what they come to
abbrev pub StandsFor : PlannedQuery → PartialState → List IndexedPiece → Type 0
StandsFor plan partial pieces = partial ≡ of_pieces plan pieces

-- It stands for some pieces.
abbrev pub IsPartialOf : PlannedQuery → PartialState → Type 0
IsPartialOf plan partial = ∥ ((pieces : List IndexedPiece) × StandsFor plan partial pieces) ∥₁

-- It stands for an input: for pieces that the input is cut into.
pub record StandsForInput (plan : PlannedQuery) (partial : PartialState) (input : List ℕ) : Type 0 where
  pub pieces : List IndexedPiece
  pub stands : StandsFor plan partial pieces
  pub cut : IsCutInto input pieces

-- ---- of two

-- Two partial results have one shape where their grouping sets, set functions and filters are the
-- same
pub record HaveOneShape (partial other : PartialState) : Type 0 where
  pub sets : partial.sets ≡ other.sets
  pub functions : partial.functions ≡ other.functions
  pub filters : partial.filters ≡ other.filters

-- What two of one shape come to together: at each key of their tables what both keep, all lines,
-- all refused lines, and the notes of both
abbrev pub both : PartialState → PartialState → PartialState
both first second = record {
  sets = first.sets;
  functions = first.functions;
  filters = first.filters;
  table = both_tables first.table second.table;
  lines = first.lines + second.lines;
  refused = first.refused + second.refused;
  notes = sorted_by note_order (first.notes ++ second.notes);
}

-- ---- as one piece

-- No two of its pieces have one index.
abbrev pub HasOwnIndexes : PartialState → Type 0
HasOwnIndexes partial = IsDistinct nat_eq (map (λ note. note.index) partial.notes)

-- The refused lines of its pieces, each by its number among the lines of all pieces.
abbrev pub numbered_lines : PartialState → List (ℕ × LineFault)
numbered_lines partial = refused_lines_from 0 partial.notes

-- The note of so many lines as one piece, of index 0, with these refused ones.
abbrev pub note_of_one : ℕ → List (ℕ × LineFault) → Noted
note_of_one lines refused = record { index = 0; lines = lines; refused = refused }

-- That note alone; of no line there is none.
abbrev pub notes_of_one : ℕ → List (ℕ × LineFault) → List Noted
notes_of_one zero refused = []
notes_of_one (suc more) refused = note_of_one (suc more) refused ∷ []

-- The same lines and groups as one piece, of index 0, whichever pieces they were cut into.
abbrev pub as_one : PartialState → PartialState
as_one partial = record {
  sets = partial.sets;
  functions = partial.functions;
  filters = partial.filters;
  table = partial.table;
  lines = partial.lines;
  refused = partial.refused;
  notes = notes_of_one partial.lines (numbered_lines partial);
}

-- a front and the rest of an input as one piece: what both come to, where the refused lines of the
-- rest are numbered behind all lines of the front
abbrev pub concatenation : PartialState → PartialState → PartialState
concatenation front rest = record {
  sets = front.sets;
  functions = front.functions;
  filters = front.filters;
  table = both_tables front.table rest.table;
  lines = front.lines + rest.lines;
  refused = front.refused + rest.refused;
  notes = note_of_one (front.lines + rest.lines) (numbered_lines front ++ map (λ line. (front.lines + line.0, line.1)) (numbered_lines rest)) ∷ [];
}

-- The one piece that is the whole input.
abbrev pub whole_piece : List ℕ → List IndexedPiece
whole_piece input = record { index = 0; bytes = input } ∷ []

-- The one piece that an input is, of index 0; an input without a byte is none.
abbrev pub one_piece : List ℕ → List IndexedPiece
one_piece [] = []
one_piece (byte ∷ bytes) = whole_piece (byte ∷ bytes)

-- a partial result is another one, but for its notes
pub record DiffersInNotes (before partial : PartialState) : Type 0 where
  pub shape : HaveOneShape before partial
  pub table : partial.table ≡ before.table
  pub lines : partial.lines ≡ before.lines
  pub refused : partial.refused ≡ before.refused

-- ---- results

-- The rows are those of the groups that the query finds in a list of records.
abbrev pub GivesGroups : PlannedQuery → GroupsState → List Record → Type 0
GivesGroups plan groups rows = SameBag groups.found (rows_before_having plan.fields plan.query rows)

-- The rows are those of the groups of the valid records of an input, and the refused lines are its
-- refused lines
pub record IsResultOf (plan : PlannedQuery) (groups : GroupsState) (input : List ℕ) : Type 0 where
  pub rows : GivesGroups plan groups (valid_records plan.fields input)
  pub refused : groups.refused ≡ refused_lines plan.fields input
