use Rattle.std.proofs.Common.{rules, tests, string_bytes, ◌∙◌}
use Rattle.std.specs.Prelude.{String}
use Rattle.std.specs.Global.{Global}
use Rattle.std.specs.Str.{bytes_eq}
use Rattle.std.proofs.lemmas.Iterator.{YieldsList-from_slice}
use Rattle.std.proofs.lemmas.Iterator.Search.{any_from_yields_List}
use Rattle.query_typecheck.proofs.Headers.{any_bytes}
use Rattle.query_typecheck.proofs.resolution.has_header.Goals as goal

pub returns : goal.returns
returns c =
    any_from_yields_List (λ (s : String Global). bytes_eq c.args.text.now (string_bytes s)) _ _ _ c.any.ensures.ran (YieldsList-from_slice c.args.headers.now (search rules)) (λ x b q k. search (rules, tests))
    ∙ any_bytes (bytes_eq c.args.text.now) c.args.headers.now
