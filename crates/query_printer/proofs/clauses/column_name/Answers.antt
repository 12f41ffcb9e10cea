use Rattle.std.proofs.Common.{◌∙◌, sym, refl}
use Rattle.std.proofs.lemmas.Option.{slice_get_read, slice_get_past}
use Rattle.query_printer.proofs.Pushes.{name_there, name_past}
use Rattle.query_printer.proofs.clauses.column_name.Goals as goal

pub returns-in-Some : goal.returns-in-Some
returns-in-Some c =
    let h = c.in-Some.ensures.lookup in
    c.as_str.ensures.value ∙ sym (name_there c.args.columns.now c.args.place c.in-Some.column.now (slice_get_read c.args.columns.now _ c.args.place c.in-Some.column.now refl h.3.0 h.1))

pub returns-in-None : goal.returns-in-None
returns-in-None c =
    let h = c.in-None.ensures.lookup in
    sym (name_past c.args.columns.now c.args.place (slice_get_past c.args.columns.now c.args.place h.3))
