use Rattle.std.proofs.Common.{◌∙◌, List, map, ap, take_all}
use Rattle.group_tables.specs.Cells.{summary_of}
use Rattle.group_tables.specs.GroupRows.{row_of}
use Rattle.report_rows.specs.declared.source.ValueSource.{ValueSource}
use Rattle.report_rows.specs.Sources.{shown_at}
use Rattle.report_rows.proofs.Maps.{map-pushed}
use Rattle.report_rows.proofs.arrange.row_for.Goals as goal

pub loop-source-preserved : goal.loop-source-preserved
loop-source-preserved c =
    let row = row_of c.args.found.now in
    map-pushed summary_of (shown_at row.1.key row.1.cells) c.sources_at-set_sources.result.now c.loop-source.source-index c.source-item.result c.loop-source.cells.items c.push.new.self.items c.in_ok-cell_from.field-0
    c.loop-source-test.true c.source-item.is c.in_ok-push.ensures.items c.in_ok-cell_from.ensures c.loop-source.invariant

pub returns : goal.returns
returns c =
    let row = row_of c.args.found.now in
    let shown = λ (ss : List ValueSource). map (shown_at row.1.key row.1.cells) ss in
    c.loop-source.invariant
    ∙ ap shown (take_all c.loop-source.source-index c.sources_at-set_sources.result.now c.loop-source-test.false)
    ∙ ap shown c.sources_at-set_sources.ensures
