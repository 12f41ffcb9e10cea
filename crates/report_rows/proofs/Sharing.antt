-- Keys that stand in codes say the same to every thread.
use denote.Param.Send.{IsSync, sendable}
use denote.Ref.{NamedLft}
use Rattle.std.proofs.Crossing as std
use Rattle.query_ast.proofs.expression.Expression.TheLaws.TheKnot as expression
use Rattle.query_ast.specs.contracts.expression.Expression as Expression
use Rattle.report_rows.specs.contracts.coded_key.CodedKey as CodedKey

expression_sync : IsSync (Expression.the_field).row
expression_sync = search (std.crosses, expression.crosses, sendable) depth 60 fits 20000

pub key_sync : (κ : NamedLft) → IsSync (CodedKey.the_row κ)
key_sync κ = search (expression_sync, std.crosses, sendable) depth 60 fits 20000
