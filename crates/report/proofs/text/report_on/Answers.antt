use Rattle.std.proofs.Common.{◌∙◌, List, ap, map, subst, sym}
use Rattle.query_plan.specs.Planned.{PlannedQuery}
use Rattle.semantics.specs.Aggregates.{CellValue}
use Rattle.std.proofs.lemmas.Result.{IfOk-weaker}
use Rattle.group_tables.specs.Fitting.{AreFitting}
use Rattle.semantics.specs.ResultRows.{ResultRow}
use Rattle.group_tables.specs.GroupRows.{row_of}
use Rattle.semantics.specs.Order.{report_values}
use Rattle.semantics.specs.Texts.{report_bytes}
use Rattle.report.proofs.OnGroups.{groups-shown, groups-within}
use Rattle.report.proofs.text.report_on.Goals as goal

pub shown_groups-requires-clause-fit : goal.shown_groups-requires-clause-fit
shown_groups-requires-clause-fit g c =
    subst (λ (plan : PlannedQuery). AreFitting plan.fields plan.query (map row_of c.rows.result.now)) (sym c.in_ok-view.ensures)
    (subst (λ (found : List ResultRow). AreFitting c.args.plan.now.fields c.args.plan.now.query found) (sym c.rows.ensures.rows) c.requires.fit)

pub write_rows-requires-clause-within : goal.write_rows-requires-clause-within
write_rows-requires-clause-within g c =
    groups-within c.args.plan.now c.in_ok-view.view (map row_of c.rows.result.now) c.in_ok-shown.shown.items c.as_slice-2.result.now c.in_ok-sources.sources.items c.as_slice.result.now
    c.in_ok-view.ensures c.as_slice-2.ensures.value c.as_slice.ensures.value c.in_ok-shown.ensures.shown c.in_ok-shown.ensures.sets c.in_ok-sources.ensures

pub returns : goal.returns
returns g c =
    let items = c.args.plan.now.query.items in
    let is = groups-shown c.args.plan.now c.in_ok-view.view (map row_of c.rows.result.now) c.in_ok-shown.shown.items c.as_slice-2.result.now c.in_ok-sources.sources.items c.as_slice.result.now
    c.in_ok-view.ensures c.as_slice-2.ensures.value c.as_slice.ensures.value c.in_ok-shown.ensures.shown c.in_ok-shown.ensures.sets c.in_ok-sources.ensures in
    IfOk-weaker c.write_rows.result _ _ (λ text e. e ∙ ap (λ (all : List (List CellValue)). report_bytes items all) is
    ∙ ap (λ (found : List ResultRow). report_bytes items (report_values c.args.plan.now.fields c.args.plan.now.query found)) c.rows.ensures.rows) c.write_rows.ensures
