-- The rows that a report shows: those of which HAVING is True, in their order.
use Rattle.std.proofs.Common.{◌≡◌, ◌<◌, ◌∙◌, Bor, List, ℕ, length, map, sym, ap, subst, All}
use Rattle.std.specs.List.{AllByRecursion}
use Rattle.std.proofs.lemmas.List.Elements.{All-from_recursion}
use Rattle.semantics.specs.Sets.{sets_of}
use Rattle.query_plan.specs.Planned.{PlannedQuery}
use Rattle.group_tables.specs.declared.group.Group.{Group}
use Rattle.group_tables.specs.Fitting.{AreFitting}
use Rattle.semantics.specs.ResultRows.{ResultRow}
use Rattle.group_tables.specs.GroupRows.{row_of}
use Rattle.semantics.specs.Rows.{rows_having_true}
use Rattle.report_rows.specs.Planned.{HasSetUnder}
use Rattle.semantics.specs.Order.{sorted_rows, row_order}
use Rattle.semantics.specs.Lists.{sorted_by}
use Rattle.report_rows.proofs.Filtering.{fit-having_true}
use Rattle.report_rows.proofs.Keeping.{within-having_true}
use Rattle.report_rows.proofs.Maps.{all-of-map}

-- the rows that are put in order fit the plan, since all rows do
pub true-fit : (plan : PlannedQuery) (found rows unordered : List ResultRow) → rows ≡ found → unordered ≡ rows_having_true plan.fields plan.query rows → AreFitting plan.fields plan.query found → AreFitting plan.fields plan.query unordered
true-fit plan found rows unordered same true fit =
    let fits = AreFitting plan.fields plan.query in
    subst fits (sym true) (fit-having_true plan.fields plan.query rows (subst fits (sym same) fit))

-- put in order they are the rows of the report
pub true-arranged : (plan : PlannedQuery) (found rows unordered : List ResultRow) → rows ≡ found → unordered ≡ rows_having_true plan.fields plan.query rows → sorted_by (row_order plan.fields plan.query) unordered ≡ sorted_rows plan.fields plan.query found
true-arranged plan found rows unordered same true =
    let fields = plan.fields in
    let t = plan.query in
    ap (sorted_by (row_order fields t)) true ∙ ap (sorted_rows fields t) same

-- the index of each row of the report is that of a grouping set
pub arranged-sets : (plan : PlannedQuery) (found : List ResultRow) (shown : List (Bor (ℕ × Group))) → map (λ r. row_of r.now) shown ≡ sorted_rows plan.fields plan.query found → AreFitting plan.fields plan.query found → All (λ r. HasSetUnder plan (row_of r.now)) shown
arranged-sets plan found shown is fit =
    let fields = plan.fields in
    let t = plan.query in
    let within = subst (λ (rows : List ResultRow). AllByRecursion (λ row. row.0 < length (sets_of fields t)) rows) (sym is) (within-having_true fields t found fit) in
    All-from_recursion (λ (r : Bor (ℕ × Group)). HasSetUnder plan (row_of r.now)) shown (all-of-map (λ (r : Bor (ℕ × Group)). row_of r.now) (HasSetUnder plan) shown within)
