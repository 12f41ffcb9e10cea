use Rattle.std.proofs.Common.{◌≡◌, ◌++◌, ◌<◌, Bor, ℕ, length, map}
use Rattle.std.specs.List.{AllByRecursion}
use Rattle.semantics.specs.Sets.{sets_of}
use Rattle.group_tables.specs.declared.group.Group.{Group}
use Rattle.group_tables.specs.GroupRows.{row_of}
use Rattle.semantics.specs.Order.{report_values}
use Rattle.report_rows.specs.Shown.{cells_of}
use Rattle.semantics.specs.Rows.{row_values}
use Rattle.report_rows.proofs.arrange.arranged_rows.Given as goal

-- the rows so far, and then those of the groups that are left, whose indexes are those of sets
abbrev pub invariant-loop-group : goal.invariant-loop-group
invariant-loop-group l = record {
  shown : map cells_of l.rows.items ++ map (row_values l.plan.fields l.plan.query) (map (λ (r : Bor (ℕ × Group)). row_of r.now) l.group-iterator.rest.items) ≡ report_values l.plan.fields l.plan.query (map row_of l.groups);
  within : AllByRecursion (λ x. x.0 < length (sets_of l.plan.fields l.plan.query)) (map (λ (r : Bor (ℕ × Group)). row_of r.now) l.group-iterator.rest.items);
}
