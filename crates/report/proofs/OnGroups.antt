-- What the rows of groups show, as it is written.
use Rattle.std.proofs.Common.{◌≡◌, ◌∙◌, ◌<◌, Bor, ℕ, List, [], ◌∷◌, length, map, refl, ap, sym, subst, arith, All}
use Rattle.std.specs.Global.{Vec}
use Rattle.std.proofs.lemmas.List.Elements.{All-tail}
use Rattle.semantics.specs.Sets.{sets_of}
use Rattle.query_plan.specs.Planned.{PlannedQuery}
use Rattle.group_tables.specs.declared.group.Group.{Group}
use Rattle.semantics.specs.ResultRows.{ResultRow}
use Rattle.group_tables.specs.GroupRows.{row_of}
use Rattle.report_rows.specs.declared.source.ValueSource.{ValueSource}
use Rattle.semantics.specs.Order.{sorted_rows, report_values}
use Rattle.semantics.specs.Rows.{row_values}
use Rattle.report_rows.specs.Planned.{HasSetUnder}
use Rattle.report_rows.specs.Sources.{AreSourcesOfEach, cells_at}
use Rattle.report_rows.proofs.Maps.{map-twice}
use Rattle.report_rows.proofs.Sources.{sources-at, sources-count}

each-shown : (plan : PlannedQuery) (sources : List (Vec ValueSource)) (groups : List (Bor (ℕ × Group))) → AreSourcesOfEach plan (sets_of plan.fields plan.query) sources
    → All (λ (r : Bor (ℕ × Group)). HasSetUnder plan (row_of r.now)) groups
    → map (λ (r : Bor (ℕ × Group)). cells_at sources (row_of r.now)) groups ≡ map (λ (r : Bor (ℕ × Group)). row_values plan.fields plan.query (row_of r.now)) groups
each-shown plan sources [] each within = refl
each-shown plan sources (group ∷ groups) each within =
    let row = row_of group.now in
    let first : cells_at sources row ≡ row_values plan.fields plan.query row = sources-at plan (sets_of plan.fields plan.query) sources row.0 (within 0 group (omega arith)) each row.1.key row.1.cells in
    let rest = each-shown plan sources groups each (All-tail (λ (r : Bor (ℕ × Group)). HasSetUnder plan (row_of r.now)) group groups within) in
    λ i. first i ∷ rest i

-- the sources that were looked up under a plan's view, and the groups that are shown under it, as
-- slices
module _ (plan view : PlannedQuery) (found : List ResultRow) (shown groups : List (Bor (ℕ × Group))) (made sources : List (Vec ValueSource)) (is : view ≡ plan) (same_groups : groups ≡ shown) (same_sources : sources ≡ made)
    (arranges : map (λ (r : Bor (ℕ × Group)). row_of r.now) shown ≡ sorted_rows view.fields view.query found)
    (within : All (λ (r : Bor (ℕ × Group)). HasSetUnder view (row_of r.now)) shown)
    (each : AreSourcesOfEach view (sets_of view.fields view.query) made) where
  -- what is written of the groups is what the rows of the report show
  pub groups-shown : map (λ (r : Bor (ℕ × Group)). cells_at sources (row_of r.now)) groups ≡ report_values plan.fields plan.query found
  groups-shown =
      let shows = λ (r : Bor (ℕ × Group)). row_of r.now in
      (λ i. map (λ (r : Bor (ℕ × Group)). cells_at (same_sources i) (row_of r.now)) (same_groups i))
      ∙ each-shown view made shown each within
      ∙ sym (map-twice (row_values view.fields view.query) shows shown)
      ∙ ap (map (row_values view.fields view.query)) arranges
      ∙ ap (λ (p : PlannedQuery). report_values p.fields p.query found) is

  -- the index of each of them is that of a grouping set, of which there are as many as sources
  pub groups-within : All (λ (r : Bor (ℕ × Group)). (row_of r.now).0 < length sources) groups
  groups-within =
      let count = sources-count view (sets_of view.fields view.query) made each in
      let as_many : length (sets_of view.fields view.query) ≡ length sources = sym count ∙ ap (λ (l : List (Vec ValueSource)). length l) (sym same_sources) in
      subst (λ (gs : List (Bor (ℕ × Group))). All (λ (r : Bor (ℕ × Group)). (row_of r.now).0 < length sources) gs) (sym same_groups)
      (subst (λ (n : ℕ). All (λ (r : Bor (ℕ × Group)). (row_of r.now).0 < n) shown) as_many within)
