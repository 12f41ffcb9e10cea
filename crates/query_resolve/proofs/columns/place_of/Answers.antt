use Rattle.std.proofs.Common.{rules, tests, string_bytes, ◌∙◌}
use Rattle.std.specs.Str.{bytes_eq}
use Rattle.std.proofs.lemmas.Iterator.{YieldsList-from_slice}
use Rattle.std.proofs.lemmas.Iterator.Search.{position_from_yields_List}
use Rattle.values.specs.declared.schema.Column.{Column}
use Rattle.query_resolve.proofs.Places.{names_position}
use Rattle.query_resolve.proofs.columns.place_of.Goals as goal

pub returns : goal.returns
returns c =
    position_from_yields_List (λ (column : Column). bytes_eq c.args.name.now (string_bytes column.name)) _ _ _ c.position.ensures.ran (YieldsList-from_slice c.args.columns.now (search rules)) (λ x b q k. search (rules, tests))
    ∙ names_position (bytes_eq c.args.name.now) c.args.columns.now
