use Rattle.std.proofs.Common.{◌≡◌, ◌++◌, map}
use Rattle.group_tables.specs.GroupSummaries.{group_summary_in}
use Rattle.group_tables.specs.GroupRows.{row_of}
use Rattle.tables.proofs.rows.put_groups.Given as goal

-- the rows so far and those of the groups that are left are all
abbrev pub invariant-loop-group : goal.invariant-loop-group
invariant-loop-group l = map row_of l.rows.items ++ map (λ group. (l.index, group_summary_in group)) l.group-iterator.rest.items
    ≡ map row_of l.fn.rows.items ++ map (λ group. (l.index, group_summary_in group)) l.fn.groups.items
