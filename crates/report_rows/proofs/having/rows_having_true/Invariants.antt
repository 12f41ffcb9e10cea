use Rattle.std.proofs.Common.{◌≡◌, ◌++◌, Bor, ℕ, drop, map}
use Rattle.group_tables.specs.declared.group.Group.{Group}
use Rattle.group_tables.specs.GroupRows.{row_of}
use Rattle.semantics.specs.Rows.{rows_having_true}
use Rattle.report_rows.proofs.having.rows_having_true.Given as goal

-- the rows so far of which HAVING is True, and then those of the rows that are left
abbrev pub invariant-loop-found : goal.invariant-loop-found
invariant-loop-found l =
    map (λ (r : Bor (ℕ × Group)). row_of r.now) l.true_rows.items ++ rows_having_true l.plan.fields l.plan.query (map row_of (drop l.found-index l.rows))
    ≡ rows_having_true l.plan.fields l.plan.query (map row_of l.rows)
