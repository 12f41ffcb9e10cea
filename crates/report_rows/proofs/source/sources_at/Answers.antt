use Rattle.std.proofs.Common.{◌∙◌, [], ap, sym}
use Rattle.std.specs.Global.{Vec}
use Rattle.std.proofs.lemmas.List.{get_or-map}
use Rattle.report_rows.specs.declared.source.ValueSource.{ValueSource}
use Rattle.report_rows.proofs.source.sources_at.Goals as goal

pub returns : goal.returns
returns c =
    let items = λ (s : Vec ValueSource). s.items in
    c.as_slice.ensures.value
    ∙ ap items c.index-sources-index.is
    ∙ sym (get_or-map items c.args.sources.now c.args.index c.index-sources-index.result [] c.requires)
