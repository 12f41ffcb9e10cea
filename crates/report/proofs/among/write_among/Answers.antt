use Rattle.std.proofs.Common.{Bor, ℕ, Some, map}
use Rattle.std.specs.List.{flat_map}
use Rattle.csv.specs.Writing.{text_written}
use Rattle.group_tables.specs.declared.group.Group.{Group}
use Rattle.group_tables.specs.GroupRows.{row_of}
use Rattle.report_rows.specs.Parts.{items_of}
use Rattle.report_rows.specs.Sources.{cells_at}
use Rattle.report_rows.proofs.InParts.{joined-whole}
use Rattle.report.proofs.Written.{report-joined, texts-joined}
use Rattle.report.proofs.among.write_among.Goals as goal

pub returns : goal.returns
returns g c =
    let items = c.args.plan.now.query.items in
    let rows = map (λ (r : Bor (ℕ × Group)). cells_at c.args.sources.now (row_of r.now)) c.args.groups.now in
    joined-whole c.join_parts.result c.join_parts.ensures.made c.join_parts.ensures.items (λ whole made bytes.
    report-joined items (text_written (λ v. Some v.items) c.in_ok-writer_with_headers.field-0) c.in_ok-text.text.items whole.items (flat_map items_of c.in_ok-texts.texts.items) rows
    c.in_ok-writer_with_headers.ensures.text c.in_ok-text.ensures bytes
    (texts-joined c.args.size rows c.in_ok-texts.texts.items c.in_ok-texts.ensures made))
