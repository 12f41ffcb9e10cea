use Rattle.std.proofs.Common.{◌∙◌, length, sym}
use Rattle.query_ast.specs.Syntax.{function_form}
use Rattle.semantics.specs.SetFunctions.{functions_of}
use Rattle.report_rows.proofs.RowValues.{place-within}
use Rattle.report_rows.proofs.source.source_of.Goals as goal

pub returns-in-Name-clause-within : goal.returns-in-Name-clause-within
returns-in-Name-clause-within c = c.name_source.ensures.within (length (functions_of c.args.plan.now.fields c.args.plan.now.query))

pub returns-in-Some-clause-within : goal.returns-in-Some-clause-within
returns-in-Some-clause-within c =
    place-within c.args.plan.now.fields c.args.plan.now.query (function_form c.deref-in-Function.result.now) c.in-Some.place (sym c.in-Some.is ∙ c.function_place.ensures)
