use Rattle.std.proofs.Common.{length}
use Rattle.semantics.specs.SetFunctions.{functions_of}
use Rattle.report_rows.proofs.row_scope.RowScopeScope.name_source.Goals as goal

pub value_source-requires : goal.value_source-requires
value_source-requires c = c.name_source.ensures.within (length (functions_of c.args.self.now.plan.now.fields c.args.self.now.plan.now.query))
