use Rattle.std.proofs.Common.{◌≤◌, ◌∙◌, length, refl, sym, ap, arith}
use Rattle.std.proofs.lemmas.Bool.Decides.{nat_tests}
use Rattle.std.proofs.lemmas.Option.{slice_get_past, slice_get_read}
use Rattle.semantics.specs.Canonical.{name_at}
use Rattle.query_printer.proofs.Pushes.{name_past, name_there}
use Rattle.report.proofs.refused_lines.column_name.Goals as goal

pub returns-in-Some : goal.returns-in-Some
returns-in-Some c =
    let columns = c.columns.result.now in
    let column = c.in-Some.column.now in
    let found = c.in-Some.ensures.lookup in
    c.as_str.ensures.value
    ∙ sym (name_there columns c.args.place column (slice_get_read columns (length columns) c.args.place column refl found.3.0 found.1))
    ∙ ap (λ fields. name_at fields c.args.place) c.columns.ensures.columns

pub returns-in-None : goal.returns-in-None
returns-in-None c =
    let columns = c.columns.result.now in
    let past : length columns ≤ c.args.place = let e = c.in-None.ensures.lookup.0 in grind (arith, nat_tests, e) in
    sym (name_past columns c.args.place (slice_get_past columns c.args.place past))
    ∙ ap (λ fields. name_at fields c.args.place) c.columns.ensures.columns
