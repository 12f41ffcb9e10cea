use Rattle.std.proofs.Common.{◌≡◌, map, take}
use Rattle.query_ast.specs.Syntax.{expression_form}
use Rattle.report_rows.specs.Inside.Sources.{expression_forms}
use Rattle.report_rows.proofs.source.item_expressions.Given as goal

abbrev pub invariant-loop-item : goal.invariant-loop-item
invariant-loop-item l = expression_forms l.expressions.items ≡ map (λ item. expression_form item.expression) (take l.item-index l.items)
