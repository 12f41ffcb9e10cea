use Rattle.std.proofs.Common.{◌∙◌, ap, map, sym}
use Rattle.semantics.specs.Records.{valid_records}
use Rattle.semantics.specs.ResultRows.{rows_before_having}
use Rattle.report.specs.Report.{refusals_of}
use Rattle.semantics.specs.Rows.{row_values}
use Rattle.semantics.specs.Texts.{report_bytes}
use Rattle.jlreport_engine.proofs.runs.texts_of.Goals as goal

pub returns-clause-report : goal.returns-clause-report
returns-clause-report g c = λ input whole.
    let plan = c.args.plan.now in
    let groups = c.in_ok-groups.groups in
    let is = c.in_ok-groups.ensures.whole input whole.pieces whole.stands whole.cut in
    let fit = c.in_ok-groups.ensures.fit in
    let blind = c.arranged_law.ensures plan.fields plan.query groups.found fit
    (rows_before_having plan.fields plan.query (valid_records plan.fields input)) is.rows in
    c.in_ok-report.ensures ∙ ap (λ rows. report_bytes plan.query.items (map (row_values plan.fields plan.query) rows)) (sym blind)

pub returns-clause-refused : goal.returns-clause-refused
returns-clause-refused g c = λ input whole.
    let fields = c.args.plan.now.fields in
    let is = c.in_ok-groups.ensures.whole input whole.pieces whole.stands whole.cut in
    ap (refusals_of fields) is.refused
