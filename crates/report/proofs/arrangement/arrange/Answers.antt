use Rattle.std.proofs.Common.{◌≡◌, All, IfOk, List, length, map, subst, sym}
use Rattle.query_plan.specs.Planned.{PlannedQuery}
use Rattle.group_tables.specs.Fitting.{AreFitting}
use Rattle.semantics.specs.ResultRows.{ResultRow}
use Rattle.group_tables.specs.GroupRows.{row_of}
use Rattle.semantics.specs.Order.{report_values}
use Rattle.report_rows.specs.Shown.{cells_of}
use Rattle.report.proofs.arrangement.arrange.Goals as goal

pub arranged_rows-requires : goal.arranged_rows-requires
arranged_rows-requires c =
    subst (λ (plan : PlannedQuery). AreFitting plan.fields plan.query (map row_of c.rows.result.now)) (sym c.in_ok-view.ensures)
    (subst (λ (found : List ResultRow). AreFitting c.args.plan.now.fields c.args.plan.now.query found) (sym c.rows.ensures.rows) c.requires)

pub returns : goal.returns
returns c = record {
  cells = subst (λ (found : List ResultRow). IfOk c.arranged_rows.result (λ rows. map cells_of rows.items ≡ report_values c.args.plan.now.fields c.args.plan.now.query found)) c.rows.ensures.rows
      (subst (λ (plan : PlannedQuery). IfOk c.arranged_rows.result (λ rows. map cells_of rows.items ≡ report_values plan.fields plan.query (map row_of c.rows.result.now))) c.in_ok-view.ensures c.arranged_rows.ensures.cells);
  wide = subst (λ (plan : PlannedQuery). IfOk c.arranged_rows.result (λ rows. All (λ row. length row.cells.items ≡ length plan.query.items) rows.items)) c.in_ok-view.ensures c.arranged_rows.ensures.wide;
}
