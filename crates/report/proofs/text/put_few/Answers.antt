use Rattle.std.proofs.Common.{◌≡◌, ◌∙◌, ◌+◌, ◌<◌, Bor, ℕ, Some, length, map, take, refl, ap, sym, subst, slice_get, option_map}
use Rattle.std.proofs.lemmas.Option.{slice_get_read}
use Rattle.csv.specs.Writing.{text_written}
use Rattle.group_tables.specs.declared.group.Group.{Group}
use Rattle.group_tables.specs.GroupRows.{row_of}
use Rattle.report_rows.specs.Sources.{cells_at, shown_at}
use Rattle.report_rows.proofs.Maps.{map-next}
use Rattle.report.proofs.Written.{appended-next, appended-none}
use Rattle.report.proofs.text.put_few.Goals as goal

pub loop-found-init : goal.loop-found-init
loop-found-init c = record { between = c.requires.between; appends = appended-none (text_written (λ v. Some v.items) c.args.writer.now) }

pub sources_at-requires : goal.sources_at-requires
sources_at-requires c =
    subst (λ (r : Bor (ℕ × Group)). r.now.0 < length c.args.sources.now) (sym c.found-item.is) (c.requires.within c.loop-found.found-index c.found-item.result c.loop-found-test.true)

pub loop-found-preserved : goal.loop-found-preserved
loop-found-preserved c =
    let groups = c.args.groups.now in
    let row = row_of c.found-item.result.now in
    let shown = λ (r : Bor (ℕ × Group)). cells_at c.args.sources.now (row_of r.now) in
    let cells = map (shown_at row.1.key row.1.cells) c.sources_at.result.now in
    let is : cells ≡ shown c.found-item.result = ap (map (shown_at row.1.key row.1.cells)) c.sources_at.ensures in
    let at : slice_get groups c.loop-found.found-index ≡ Some c.found-item.result = slice_get_read groups (length groups) c.loop-found.found-index c.found-item.result refl c.loop-found-test.true c.found-item.is in
    record {
      between = c.in_ok-put_group.ensures.between;
      appends = appended-next (text_written (λ v. Some v.items) c.args.writer.now) (text_written (λ v. Some v.items) c.loop-found.writer) (text_written (λ v. Some v.items) c.put_group.new.writer) (map shown (take c.loop-found.found-index groups)) (map shown (take (c.loop-found.found-index + 1) groups)) cells c.loop-found.invariant.appends c.in_ok-put_group.ensures.appends (map-next shown groups c.loop-found.found-index cells (ap Some is ∙ sym (ap (option_map shown) at)));
    }
