use Rattle.std.proofs.Common.{length, subst}
use Rattle.semantics.specs.SetFunctions.{functions_of}
use Rattle.report_rows.specs.Inside.Sources.{IsSourceOf, IsWithin}
use Rattle.report_rows.proofs.RowScope.{cell-source, key-source}
use Rattle.report_rows.proofs.row_scope.RowScope.value_source.Goals as goal

pub returns-in-KeyAt : goal.returns-in-KeyAt
returns-in-KeyAt c = λ e shown.
    let plan = c.args.self.now.plan.now in
    let set = c.args.self.now.set.now in
    key-source plan set e c.in-KeyAt.place (subst (IsWithin (length set) (length (functions_of plan.fields plan.query))) c.in-KeyAt.is c.requires) (subst (IsSourceOf plan set e) c.in-KeyAt.is shown)

pub returns-in-CellAt : goal.returns-in-CellAt
returns-in-CellAt c = λ e shown.
    let plan = c.args.self.now.plan.now in
    let set = c.args.self.now.set.now in
    cell-source plan set e c.in-CellAt.place (subst (IsWithin (length set) (length (functions_of plan.fields plan.query))) c.in-CellAt.is c.requires) (subst (IsSourceOf plan set e) c.in-CellAt.is shown)
