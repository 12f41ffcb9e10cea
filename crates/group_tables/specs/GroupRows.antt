-- A group beside the index of its grouping set, apart from where it lies in memory.
use Rattle.std.specs.Prelude.{ℕ, ◌+◌, List, ◌∷◌, ◌++◌, map, []}
use Rattle.std.specs.Global.{Vec}
use Rattle.group_tables.specs.declared.group.Group.{Group}
use Rattle.semantics.specs.ResultRows.{ResultRow}
use Rattle.group_tables.specs.GroupSummaries.{group_summary_in}

abbrev pub row_of : ℕ × Group → ResultRow
row_of row = (row.0, group_summary_in row.1)

-- The rows of groups, those of each grouping set beside its index, where the first has the index n.
abbrev pub rows_from : ℕ → List (Vec Group) → List ResultRow
rows_from n [] = []
rows_from n (groups ∷ more) = map (λ group. (n, group_summary_in group)) groups.items ++ rows_from (n + 1) more
