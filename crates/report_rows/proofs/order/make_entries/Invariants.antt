use Rattle.std.proofs.Common.{◌≡◌, map, take}
use Rattle.std.specs.List.{AllByRecursion}
use Rattle.report_rows.specs.Inside.SortEntries.{IsCodableRow, coded_form, entry_at, entry_form}
use Rattle.report_rows.proofs.Rows.{row_at}
use Rattle.report_rows.proofs.order.make_entries.Given as goal

-- the rows so far
abbrev pub invariant-loop-found : goal.invariant-loop-found
invariant-loop-found l = record {
  entries : map entry_form l.entries.items ≡ map (entry_at (map coded_form l.keys)) (map row_at (take l.found-index l.rows));
  codable : AllByRecursion (IsCodableRow (map coded_form l.keys)) (map row_at (take l.found-index l.rows));
}
