use Rattle.std.proofs.Common.{◌≡◌, ◌<◌, ◌++◌, ◌∷◌, [], ◌∙◌, Bor, List, ℕ, append_assoc, length, map, sym, ap, subst}
use Rattle.std.specs.Global.{Vec}
use Rattle.std.specs.List.{AllByRecursion}
use Rattle.std.proofs.lemmas.List.{map_push}
use Rattle.semantics.specs.Sets.{sets_of}
use Rattle.group_tables.specs.declared.group.Group.{Group}
use Rattle.semantics.specs.Aggregates.{CellValue}
use Rattle.semantics.specs.ResultRows.{ResultRow}
use Rattle.group_tables.specs.GroupRows.{row_of}
use Rattle.semantics.specs.Order.{sorted_rows}
use Rattle.report_rows.specs.Shown.{cells_of}
use Rattle.semantics.specs.Rows.{row_values}
use Rattle.report_rows.specs.declared.row.ReportRow.{ReportRow}
use Rattle.report_rows.specs.declared.source.ValueSource.{ValueSource}
use Rattle.report_rows.specs.Sources.{cells_at}
use Rattle.report_rows.proofs.Sources.{sources-at, sources-count}
use Rattle.report_rows.proofs.Keeping.{within-having_true}
use Rattle.report_rows.proofs.Wide.{all-wide}
use Rattle.report_rows.proofs.arrange.arranged_rows.Goals as goal

pub loop-group-init : goal.loop-group-init
loop-group-init c =
    let fields = c.args.plan.now.fields in
    let t = c.args.plan.now.query in
    let found = (map row_of c.args.groups.now) in
    let shows = λ (r : Bor (ℕ × Group)). row_of r.now in
    let rest : c.into_iter-group-iterator.result.rest.items ≡ c.in_ok-shown.shown.items = c.into_iter-group-iterator.ensures.into_iter_gives.0 in
    let left : map shows c.into_iter-group-iterator.result.rest.items ≡ sorted_rows fields t found = ap (map shows) rest ∙ c.in_ok-shown.ensures.shown in
    record {
      shown = ap (λ (rows : List ReportRow). map cells_of rows ++ map (row_values fields t) (map shows c.into_iter-group-iterator.result.rest.items)) c.in_ok-rows.ensures.items ∙ ap (map (row_values fields t)) left;
      within = subst (λ (f : List ResultRow). AllByRecursion (λ x. x.0 < length (sets_of fields t)) f) (sym left) (within-having_true fields t found c.requires);
    }

pub loop-group-preserved : goal.loop-group-preserved
loop-group-preserved c =
    let fields = c.args.plan.now.fields in
    let t = c.args.plan.now.query in
    let shows = λ (r : Bor (ℕ × Group)). row_of r.now in
    let rows = c.loop-group.rows.items in
    let row = c.in_ok-row_for.field-0 in
    let rest = c.next.new.self.rest.items in
    let later = map (row_values fields t) (map shows rest) in
    let is : c.loop-group.group-iterator.rest.items ≡ c.in-Some.group ∷ rest = c.in-Some.ensures.steps.0 in
    let group = row_of c.in-Some.group.now in
    let within = subst (λ (gs : List (Bor (ℕ × Group))). AllByRecursion (λ x. x.0 < length (sets_of fields t)) (map shows gs)) is c.loop-group.invariant.within in
    let shows_group : cells_at c.deref.result.now group ≡ row_values fields t group =
    ap (λ (s : List (Vec ValueSource)). cells_at s group) c.deref.ensures.value
    ∙ sources-at c.args.plan.now (sets_of fields t) c.in_ok-sources.sources.items group.0 within.0 c.in_ok-sources.ensures group.1.key group.1.cells in
    record {
      shown = ap (λ (rs : List ReportRow). map cells_of rs ++ later) c.in_ok-push.ensures.items ∙ ap (λ (zs : List (List CellValue)). zs ++ later) (map_push cells_of rows row) ∙ append_assoc (map cells_of rows) (cells_of row ∷ []) later
          ∙ ap (λ (z : List CellValue). map cells_of rows ++ z ∷ later) (c.in_ok-row_for.ensures ∙ shows_group) ∙ ap (λ (gs : List (Bor (ℕ × Group))). map cells_of rows ++ map (row_values fields t) (map shows gs)) (sym is) ∙ c.loop-group.invariant.shown;
      within = within.1;
    }

pub row_for-requires : goal.row_for-requires
row_for-requires c =
    let fields = c.args.plan.now.fields in
    let t = c.args.plan.now.query in
    let shows = λ (r : Bor (ℕ × Group)). row_of r.now in
    let within = subst (λ (gs : List (Bor (ℕ × Group))). AllByRecursion (λ x. x.0 < length (sets_of fields t)) (map shows gs)) c.in-Some.ensures.steps.0 c.loop-group.invariant.within in
    let as_many : length (sets_of fields t) ≡ length c.deref.result.now =
    sym (sources-count c.args.plan.now (sets_of fields t) c.in_ok-sources.sources.items c.in_ok-sources.ensures) ∙ ap (λ (l : List (Vec ValueSource)). length l) (sym c.deref.ensures.value) in
    subst (λ (n : ℕ). (row_of c.in-Some.group.now).0 < n) as_many within.0

pub returns-clause-wide : goal.returns-clause-wide
returns-clause-wide c =
    let fields = c.args.plan.now.fields in
    let t = c.args.plan.now.query in
    all-wide fields t c.loop-group.rows.items (map (row_values fields t) (map (λ (r : Bor (ℕ × Group)). row_of r.now) c.loop-group.group-iterator.rest.items)) (sorted_rows fields t (map row_of c.args.groups.now)) c.loop-group.invariant.shown
