-- What partial results and groups are under a plan: under its columns and its query.
use Rattle.std.specs.Prelude.{◌≡◌, List, map, ℕ}
use Rattle.semantics.specs.Sets.{grouping_places}
use Rattle.semantics.specs.Conditions.{kept_records}
use Rattle.group_tables.specs.declared.group.Group.{Group}
use Rattle.group_tables.specs.Bags.{SameBag}
use Rattle.semantics.specs.Groups.{Key, members, Record}
use Rattle.group_tables.specs.GroupSummaries.{group_summaries, group_summary_in}
use Rattle.group_tables.specs.Rolled.{AreAmong, finer_members}
use Rattle.query_plan.specs.Planned.{PlannedQuery}
use Rattle.group_tables.specs.Fitting.{AreFitting}
use Rattle.semantics.specs.ResultRows.{ResultRow, aggregate_functions}
use Rattle.tables.specs.Members.{HasEachRecordOnce}
use Rattle.tables.specs.Partials.{GivesGroups, IsResultOf, StandsFor}
use Rattle.tables.specs.Pieces.{AreInOrder, AreNumbered, HaveOwnIndexes, IndexedPiece, IsCutInto, records_of, refused_lines_numbered}
use Rattle.tables.specs.States.{GroupsState, PartialState}

abbrev pub AreFittingUnder : PlannedQuery → List ResultRow → Type 0
AreFittingUnder plan found = AreFitting plan.fields plan.query found

-- Groups that fit the query of some plan.
abbrev pub FitSomePlan : List ResultRow → Type 0
FitSomePlan found = ∥ ((plan : PlannedQuery) × AreFittingUnder plan found) ∥₁

-- Each place of the set is that of a grouping column.
abbrev pub AreGroupingColumns : PlannedQuery → List ℕ → Type 0
AreGroupingColumns plan set = AreAmong set (grouping_places plan.fields plan.query)

-- The groups are those of the records that WHERE keeps under a set of columns: one for each key,
-- and no other
abbrev pub GivesGroupsOfSet : PlannedQuery → List ℕ → List Group → List Record → Type 0
GivesGroupsOfSet plan set groups rows =
    SameBag (map group_summary_in groups)
    (group_summaries set (aggregate_functions plan.fields plan.query) (kept_records plan.fields plan.query rows))

-- The members of a key under a set of columns are those of all keys of the grouping columns that
-- have its values, joined
abbrev pub HasMembersOfFiner : PlannedQuery → List ℕ → Key → List Record → Type 0
HasMembersOfFiner plan set key rows = SameBag (finer_members (grouping_places plan.fields plan.query) set key rows) (members set key rows)

-- ---- what a partial result gives

-- Groups and refused lines are what a partial result gives when it is finished, whatever pieces it
-- stands for: rows the rows are those of the groups of their records; fit the groups fit the plan;
-- members each record that WHERE keeps is a member of one row of each grouping set; numbered where
-- no two pieces have one index, each refused line of theirs is there by its number; refused where
-- the pieces stand in their order, these are their refused lines one after the other; whole where
-- the pieces are those of an input that was cut between its lines, it is the result of the input.
pub record IsFinishOf (plan : PlannedQuery) (partial : PartialState) (groups : GroupsState) : Type 0 where
  pub rows : (pieces : List IndexedPiece) → StandsFor plan partial pieces → GivesGroups plan groups (records_of plan.fields pieces)
  pub fit : AreFittingUnder plan groups.found
  pub members : (pieces : List IndexedPiece) → StandsFor plan partial pieces → HasEachRecordOnce plan groups.found (records_of plan.fields pieces)
  pub numbered : (pieces : List IndexedPiece) → StandsFor plan partial pieces → HaveOwnIndexes pieces → AreNumbered plan.fields pieces groups.refused
  pub refused : (pieces : List IndexedPiece) → StandsFor plan partial pieces → AreInOrder pieces → groups.refused ≡ refused_lines_numbered plan.fields pieces
  pub whole : (input : List ℕ) (pieces : List IndexedPiece) → StandsFor plan partial pieces → IsCutInto input pieces → IsResultOf plan groups input
