use Rattle.std.proofs.Common.{◌≡◌, ◌∙◌, Bor, IsPermutation, List, ℕ, map, ap, sym, subst}
use Rattle.std.specs.List.{flat_map}
use Rattle.std.proofs.lemmas.Result.{IfOk-weaker}
use Rattle.std.proofs.lemmas.List.Sorted.{IsPermutation-map, IsPermutation-trans}
use Rattle.group_tables.specs.declared.group.Group.{Group}
use Rattle.report_rows.specs.Parts.{AreMade, items_of}
use Rattle.report_rows.specs.Inside.SortEntries.{AreEntriesOf, AreEntriesOfParts, EntryForm, coded_form, entry_at, entry_form}
use Rattle.report_rows.specs.declared.coded_key.CodedKey.{CodedKey}
use Rattle.report_rows.specs.declared.sort_entry.SortEntry.{SortEntry}
use Rattle.report_rows.proofs.InParts.{ranks-joined}
use Rattle.report_rows.proofs.Maps.{map-twice}
use Rattle.report_rows.proofs.Rows.{row_at, sorted-ranks}
use Rattle.report_rows.proofs.order.in_order_among.Goals as goal

pub returns : goal.returns
returns g c =
    let fields = c.args.plan.now.fields in
    let t = c.args.plan.now.query in
    let cs = map coded_form c.in_ok-keys.keys.items in
    let at : Bor SortEntry → EntryForm = λ r. entry_form r.now in
    let found = map row_at c.args.rows.items in
    let parts = c.in_ok-parts.parts.items in
    let rows : List (Bor SortEntry) = c.in_ok-entries.entries.items in
    let sorted : List (Bor SortEntry) = c.in_ok-ordered.ordered.items in
    let of-rows : AreEntriesOfParts (map coded_form c.as_slice.result.now) c.args.size found parts =
    subst (λ (rs : List (Bor (ℕ × Group))). AreEntriesOfParts (map coded_form c.as_slice.result.now) c.args.size (map row_at rs) parts) c.as_slice-2.ensures.value c.in_ok-parts.ensures in
    let of-parts : AreEntriesOfParts cs c.args.size found parts = subst (λ (keys : List CodedKey). AreEntriesOfParts (map coded_form keys) c.args.size found parts) c.as_slice.ensures.value of-rows in
    let made : AreMade parts = subst AreMade c.as_slice-3.ensures.value c.in_ok-entries.ensures.made in
    let all : map (λ r. r.now) rows ≡ flat_map items_of parts = c.in_ok-entries.ensures.rows ∙ ap (flat_map items_of) c.as_slice-3.ensures.value in
    let are : AreEntriesOf cs found (map (λ r. r.now) rows) = subst (AreEntriesOf cs found) (sym all) (ranks-joined cs c.args.size found parts of-parts made) in
    let there : IsPermutation (map (entry_at cs) found) (map at sorted) =
    IsPermutation-trans (map (entry_at cs) found) (map at rows) (map at sorted)
    (subst (IsPermutation (map (entry_at cs) found)) (map-twice entry_form (λ r. r.now) rows) are.entries)
    (IsPermutation-map at rows sorted c.in_ok-ordered.ensures.permutation) in
    IfOk-weaker c.groups_at.result _ _
    (λ v e. e ∙ sorted-ranks at cs fields t found sorted c.in_ok-keys.ensures there c.in_ok-ordered.ensures.sorted are.codable c.requires.fit) c.groups_at.ensures
