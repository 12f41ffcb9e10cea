use Rattle.std.proofs.Common.{◌≡◌, Some, map, take}
use Rattle.csv.specs.Writing.{text_written}
use Rattle.report.specs.Inside.Between.{IsBetweenRows}
use Rattle.report_rows.specs.Shown.{cells_of}
use Rattle.semantics.specs.Texts.{report_bytes}
use Rattle.report.proofs.text.report_text.Given as goal

abbrev pub invariant-loop-row : goal.invariant-loop-row
invariant-loop-row l = record {
  between : IsBetweenRows l.writer;
  text : text_written (λ v. Some v.items) l.writer ≡ Some (report_bytes l.plan.query.items (map cells_of (take l.row-index l.rows)));
}
