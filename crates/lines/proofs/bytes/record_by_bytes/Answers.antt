use Rattle.std.proofs.Common.{Ok, sym, ap, ◌∙◌}
use Rattle.values.specs.Datum.{data_of}
use Rattle.values.specs.Schema.{fields_of}
use Rattle.lines.proofs.Fitting.{fits-taken}
use Rattle.lines.proofs.Readings.{decoded-taken}
use Rattle.lines.proofs.bytes.record_by_bytes.Goals as goal

pub returns-in-Some-clause-ok : goal.returns-in-Some-clause-ok
returns-in-Some-clause-ok c =
    let line = c.args.line.now in
    let found = c.in-Some.ensures in
    decoded-taken c.args.schema.now line c.columns-columns.result.now c.take_object.new.values.items found.0 c.requires c.utf8.line found.1 c.columns-columns.ensures.columns found.2 ∙ ap (λ d. Ok d) (sym c.new.ensures.values)

pub returns-in-Some-clause-fits : goal.returns-in-Some-clause-fits
returns-in-Some-clause-fits c =
    let found = c.in-Some.ensures in
    rw (c.new.ensures.values, ← c.columns-columns.ensures.columns) (fits-taken (fields_of c.columns-columns.result.now) found.0 (data_of c.take_object.new.values.items) found.2)
