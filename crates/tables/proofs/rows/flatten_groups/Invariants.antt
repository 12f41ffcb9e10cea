use Rattle.std.proofs.Common.{◌≡◌, ◌++◌, map}
use Rattle.group_tables.specs.GroupRows.{row_of, rows_from}
use Rattle.tables.proofs.rows.flatten_groups.Given as goal

-- the rows so far and those of the sets that are left are all
abbrev pub invariant-loop-index : goal.invariant-loop-index
invariant-loop-index l = map row_of l.rows.items ++ rows_from l.index-iterator.count l.index-iterator.iter.rest.items ≡ rows_from 0 l.fn.groups.items
