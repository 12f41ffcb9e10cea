use Rattle.std.proofs.Common.{take}
use Rattle.std.specs.List.{AllZip}
use Rattle.query_resolve.specs.Resolution.{contents}
use Rattle.report_rows.specs.Inside.Having.{IsHavingFor}
use Rattle.report_rows.proofs.having.having_conditions.Given as goal

-- the conditions for the grouping sets so far
abbrev pub invariant-loop-set : goal.invariant-loop-set
invariant-loop-set l = AllZip (IsHavingFor l.plan) (take l.set-index (contents l.set-items)) l.conditions.items
