use Rattle.std.proofs.Common.{◌≡◌, ◌++◌, map}
use Rattle.report_rows.specs.Inside.SortEntries.{entry_form}
use Rattle.report_rows.proofs.Rows.{row_at}
use Rattle.report_rows.proofs.order.groups_in.Given as goal

-- the groups so far, and then those that are left
abbrev pub invariant-loop-row : goal.invariant-loop-row
invariant-loop-row l = map row_at l.groups.items ++ map (λ r. (entry_form r).1) l.row-iterator.rest.items ≡ map (λ r. (entry_form r).1) l.fn.entries.items
