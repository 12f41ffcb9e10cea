use Rattle.std.proofs.Common.{◌≡◌, ◌∙◌, Bor, List, ℕ, map, subst}
use Rattle.std.specs.List.{AllByRecursion}
use Rattle.std.proofs.lemmas.Result.{IfOk-weaker}
use Rattle.group_tables.specs.declared.group.Group.{Group}
use Rattle.report_rows.specs.declared.coded_key.CodedKey.{CodedKey}
use Rattle.report_rows.specs.Inside.SortEntries.{IsCodableRow, coded_form, entry_at, entry_form}
use Rattle.report_rows.proofs.Rows.{ranks-moved, row_at, sorted-ranks}
use Rattle.report_rows.proofs.order.in_order.Goals as goal

pub returns : goal.returns
returns c =
    let fields = c.args.plan.now.fields in
    let t = c.args.plan.now.query in
    let cs = map coded_form c.in_ok-keys.keys.items in
    let found = map row_at c.args.rows.items in
    let sorted = c.sort_entries-ordered.result.items in
    let are : map entry_form c.in_ok-entries.entries.items ≡ map (entry_at cs) found =
    c.in_ok-entries.ensures.entries ∙ (λ i. map (entry_at (map coded_form (c.as_slice.ensures.value i))) (map row_at (c.as_slice-2.ensures.value i))) in
    let codable-rows : AllByRecursion (IsCodableRow (map coded_form c.as_slice.result.now)) found =
    subst (λ (rows : List (Bor (ℕ × Group))). AllByRecursion (IsCodableRow (map coded_form c.as_slice.result.now)) (map row_at rows)) c.as_slice-2.ensures.value c.in_ok-entries.ensures.codable in
    let codable : AllByRecursion (IsCodableRow cs) found = subst (λ (keys : List CodedKey). AllByRecursion (IsCodableRow (map coded_form keys)) found) c.as_slice.ensures.value codable-rows in
    let there = ranks-moved entry_form (entry_at cs) found c.in_ok-entries.entries.items sorted are c.sort_entries-ordered.ensures.permutation in
    IfOk-weaker c.groups_in.result _ _
    (λ v e. e ∙ sorted-ranks entry_form cs fields t found sorted c.in_ok-keys.ensures there c.sort_entries-ordered.ensures.sorted codable c.requires) c.groups_in.ensures
