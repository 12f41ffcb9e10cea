use Rattle.std.proofs.Common.{take}
use Rattle.query_resolve.specs.Resolution.{contents}
use Rattle.report_rows.specs.Inside.Sources.{AreSourcesFor, expression_forms}
use Rattle.report_rows.specs.Sources.{ForEachSet}
use Rattle.report_rows.proofs.source.sources_of_each.Given as goal

abbrev pub invariant-loop-set : goal.invariant-loop-set
invariant-loop-set l = ForEachSet (AreSourcesFor l.plan (expression_forms l.expressions)) (take l.set-index (contents l.set-items)) l.all.items
