use Rattle.std.proofs.Common.{◌≡◌, ◌++◌, map, take}
use Rattle.report_rows.proofs.order.put_rows.Given as goal

-- the rows before, and then those so far
abbrev pub invariant-loop-row : goal.invariant-loop-row
invariant-loop-row l = map (λ r. r.now) l.rows.items ≡ map (λ r. r.now) l.fn.rows.items ++ take l.row-index l.part
