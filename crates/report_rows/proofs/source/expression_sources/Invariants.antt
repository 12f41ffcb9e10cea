use Rattle.std.proofs.Common.{take}
use Rattle.query_ast.specs.Syntax.{expression_form}
use Rattle.query_resolve.specs.Resolution.{contents}
use Rattle.report_rows.specs.Inside.Sources.{AreSourcesBySet}
use Rattle.report_rows.proofs.source.expression_sources.Given as goal

-- the sources so far are those for the sets so far
abbrev pub invariant-loop-set : goal.invariant-loop-set
invariant-loop-set l = AreSourcesBySet l.plan (expression_form l.expression) (take l.set-index (contents l.set-items)) l.sources.items
