use Rattle.std.proofs.Common.{Bor, ℕ, Some, map, take}
use Rattle.std.specs.Io.KnownBytes.{Appends}
use Rattle.csv.specs.Writing.{text_written}
use Rattle.group_tables.specs.declared.group.Group.{Group}
use Rattle.group_tables.specs.GroupRows.{row_of}
use Rattle.report.specs.Inside.Between.{IsBetweenRows}
use Rattle.report_rows.specs.Sources.{cells_at}
use Rattle.report.specs.Inside.Text.{rows_bytes}
use Rattle.report.proofs.text.put_few.Given as goal

-- the rows so far stand behind what was there
abbrev pub invariant-loop-found : goal.invariant-loop-found
invariant-loop-found l = record {
  between : IsBetweenRows l.writer;
  appends : Appends (text_written (λ v. Some v.items) l.fn.writer) (text_written (λ v. Some v.items) l.writer) (rows_bytes (map (λ (r : Bor (ℕ × Group)). cells_at l.sources (row_of r.now)) (take l.found-index l.groups)));
}
