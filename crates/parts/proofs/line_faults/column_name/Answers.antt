use Rattle.std.proofs.Common.{arith}
use Rattle.std.proofs.lemmas.Bool.Decides.{nat_tests}
use Rattle.std.proofs.lemmas.Option.{slice_get_past, slice_get_read}
use Rattle.std.proofs.Common.{◌≤◌, length, refl}
use Rattle.parts.proofs.Names.{name-missing, name-there}
use Rattle.parts.proofs.line_faults.column_name.Goals as goal

pub returns-in-Some : goal.returns-in-Some
returns-in-Some c =
    let found = c.in-Some.ensures.lookup in
    name-there c.args.columns.now c.args.place c.in-Some.column.now c.as_str.result.now (slice_get_read c.args.columns.now (length c.args.columns.now) c.args.place c.in-Some.column.now refl found.3.0 found.1) c.as_str.ensures.value

pub returns-in-None : goal.returns-in-None
returns-in-None c =
    let past : length c.args.columns.now ≤ c.args.place = let e = c.in-None.ensures.lookup.0 in grind (arith, nat_tests, e) in
    name-missing c.args.columns.now c.args.place (slice_get_past c.args.columns.now c.args.place past)
