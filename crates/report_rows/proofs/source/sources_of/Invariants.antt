use Rattle.std.proofs.Common.{◌≡◌, List, map, take}
use Rattle.semantics.specs.Aggregates.{CellValue}
use Rattle.semantics.specs.Groups.{Key}
use Rattle.report_rows.specs.Inside.Sources.{expression_forms}
use Rattle.report_rows.specs.Sources.{shown_at}
use Rattle.semantics.specs.Rows.{expression_value}
use Rattle.report_rows.proofs.source.sources_of.Given as goal

abbrev pub invariant-loop-expression : goal.invariant-loop-expression
invariant-loop-expression l =
    (key : Key) (cells : List CellValue) → map (shown_at key cells) l.sources.items
    ≡ map (expression_value l.plan.fields l.plan.query l.set key cells) (expression_forms (take l.expression-index l.expressions))
