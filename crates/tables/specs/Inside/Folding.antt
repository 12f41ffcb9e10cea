-- What a piece is as far as its lines have been read.
use Rattle.std.specs.Prelude.{◌≡◌, ℕ, ◌+◌, ◌++◌, ◌<◌, ◌^◌, List, length}
use Rattle.semantics.specs.Sets.{grouping_places}
use Rattle.query_resolve.specs.Functions.{indexed_functions}
use Rattle.semantics.specs.Conditions.{kept_records}
use Rattle.semantics.specs.Groups.{Record}
use Rattle.group_tables.specs.Table.{Contents, IsTableOf, TakesOne}
use Rattle.query_plan.specs.Planned.{PlannedQuery}
use Rattle.semantics.specs.ResultRows.{aggregate_functions}
use Rattle.tables.specs.declared.fold.Folding.{Folding}
use Rattle.tables.specs.Folding.{valid_records_of, refused_lines_of}

-- Behind the records of earlier pieces these lines have been read.
pub record HasRead (plan : PlannedQuery) (before : List Record) (folding : Folding) (ls : List (List ℕ)) : Type 0 where
  pub table : IsTableOf (grouping_places plan.fields plan.query) (aggregate_functions plan.fields plan.query) folding.table (kept_records plan.fields plan.query (before ++ valid_records_of plan.fields ls))
  pub lines : folding.lines ≡ length ls
  pub count : folding.refused ≡ length (refused_lines_of plan.fields ls)
  pub refused : folding.refusals ≡ refused_lines_of plan.fields ls

-- Some lines have been read, and with one more there are, with the records of earlier pieces, fewer
-- than 2^63
pub record ReadsOneMore (plan : PlannedQuery) (folding : Folding) : Type 0 where
  pub before : List Record
  pub seen : List (List ℕ)
  pub has_read : HasRead plan before folding seen
  pub few : length before + length seen + 1 < 2 ^ 63

-- The table is that of some records, and with so many more there are fewer than 2^63.
pub record HasRoom (plan : PlannedQuery) (table : Contents) (more : ℕ) : Type 0 where
  pub before : List Record
  pub is_table : IsTableOf (grouping_places plan.fields plan.query) (aggregate_functions plan.fields plan.query) table (kept_records plan.fields plan.query before)
  pub few : length before + more < 2 ^ 63

-- ---- under a plan

-- The table is that of the records that WHERE keeps of these, under all grouping columns.
abbrev pub IsTableOfKept : PlannedQuery → Contents → List Record → Type 0
IsTableOfKept plan table rows =
    IsTableOf (grouping_places plan.fields plan.query) (aggregate_functions plan.fields plan.query) table
    (kept_records plan.fields plan.query rows)

-- One line more can be read.
abbrev pub ReadsOneMoreUnder : PlannedQuery → Folding → Type 0
ReadsOneMoreUnder plan folding = ∥ ReadsOneMore plan folding ∥₁

-- So many lines can be read onto the table.
abbrev pub HasRoomUnder : PlannedQuery → Contents → ℕ → Type 0
HasRoomUnder plan table more = ∥ HasRoom plan table more ∥₁

-- The table is that of some records, fewer than 2^63 with one more.
abbrev pub TakesRecordUnder : PlannedQuery → Folding → Type 0
TakesRecordUnder plan folding =
    ∥ TakesOne (grouping_places plan.fields plan.query) (indexed_functions plan.fields plan.query) folding.table ∥₁
