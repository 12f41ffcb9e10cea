use Rattle.std.proofs.Common.{◌≤◌, length, refl, arith}
use Rattle.std.proofs.lemmas.Bool.Decides.{nat_tests}
use Rattle.std.proofs.lemmas.Option.{slice_get_past, slice_get_read}
use Rattle.parts.proofs.Names.{type-missing, type-there}
use Rattle.parts.proofs.shape.type_at.Goals as goal

pub returns-in-Some : goal.returns-in-Some
returns-in-Some c =
    let found = c.in-Some.ensures.lookup in
    type-there c.args.columns.now c.args.place c.in-Some.column.now (slice_get_read c.args.columns.now (length c.args.columns.now) c.args.place c.in-Some.column.now refl found.3.0 found.1)

pub returns-in-None : goal.returns-in-None
returns-in-None c =
    let past : length c.args.columns.now ≤ c.args.place = let e = c.in-None.ensures.lookup.0 in grind (arith, nat_tests, e) in
    type-missing c.args.columns.now c.args.place (slice_get_past c.args.columns.now c.args.place past)
