-- The members that the rows of groups stand for, over all rows of a grouping set.
use Rattle.std.specs.Prelude.{◌≡◌, ◌==◌, ◌<◌, ℕ, List, filter, length}
use Rattle.std.specs.List.{flat_map, sum_by}
use Rattle.semantics.specs.Sets.{sets_of}
use Rattle.semantics.specs.Conditions.{kept_records}
use Rattle.semantics.specs.Groups.{Record, members}
use Rattle.group_tables.specs.Bags.{SameBag}
use Rattle.semantics.specs.ResultRows.{set_of, ResultRow}
use Rattle.query_plan.specs.Planned.{PlannedQuery}

-- The rows of the grouping set with this index.
abbrev pub rows_of_set : ℕ → List ResultRow → List ResultRow
rows_of_set index found = filter (λ row. row.0 == index) found

-- The members that a row stands for: of a list of records those that WHERE keeps and that have the
-- row's key under its grouping set
abbrev pub members_of_row : PlannedQuery → List Record → ResultRow → List Record
members_of_row plan rows row = members (set_of plan.fields plan.query row) row.1.key (kept_records plan.fields plan.query rows)

-- Of each grouping set the numbers of members that its rows show add up to the number of the
-- records that WHERE keeps, and the members that its rows stand for, joined, are these records,
-- each as often.
pub record HasEachRecordOnce (plan : PlannedQuery) (found : List ResultRow) (rows : List Record) : Type 0 where
  pub lines : (index : ℕ) → index < length (sets_of plan.fields plan.query) → sum_by (λ row. row.1.lines) (rows_of_set index found) ≡ length (kept_records plan.fields plan.query rows)
  pub members : (index : ℕ) → index < length (sets_of plan.fields plan.query) → SameBag (flat_map (members_of_row plan rows) (rows_of_set index found)) (kept_records plan.fields plan.query rows)
