use Rattle.std.proofs.Common.{rules, tests, string_bytes, ◌∙◌}
use Rattle.std.specs.Str.{bytes_eq}
use Rattle.std.proofs.lemmas.Iterator.{YieldsList-from_slice}
use Rattle.std.proofs.lemmas.Iterator.Search.{any_from_yields_List}
use Rattle.values.specs.declared.schema.Column.{Column}
use Rattle.values.proofs.PartByPart.{names_any}
use Rattle.values.proofs.part.has_name.Goals as goal

pub returns : goal.returns
returns c = record {
  any = any_from_yields_List (λ (column : Column). bytes_eq c.args.name.now (string_bytes column.name)) _ _ _ c.any.ensures.ran (YieldsList-from_slice c.args.columns.now (search rules)) (λ x b q k. search (rules, tests))
      ∙ names_any (bytes_eq c.args.name.now) c.args.columns.now;
}
