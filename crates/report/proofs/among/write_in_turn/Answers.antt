use Rattle.std.proofs.Common.{Bor, ℕ, Some, map}
use Rattle.csv.specs.Writing.{text_written}
use Rattle.group_tables.specs.declared.group.Group.{Group}
use Rattle.std.proofs.lemmas.Result.{IfOk-weaker}
use Rattle.group_tables.specs.GroupRows.{row_of}
use Rattle.report_rows.specs.Sources.{cells_at}
use Rattle.report.proofs.Written.{report-written}
use Rattle.report.proofs.among.write_in_turn.Goals as goal

pub returns : goal.returns
returns c =
    let items = c.args.plan.now.query.items in
    let rows = map (λ (r : Bor (ℕ × Group)). cells_at c.args.sources.now (row_of r.now)) c.args.groups.now in
    IfOk-weaker c.text_of.result _ _ (λ text e. report-written items (text_written (λ v. Some v.items) c.in_ok-writer.writer) (text_written (λ v. Some v.items) c.put_groups.new.writer) text.items rows c.in_ok-writer.ensures.text c.in_ok-put_groups.ensures.appends e) c.text_of.ensures
