use Rattle.std.proofs.Common.{Some, refl}
use Rattle.tables.specs.declared.roll.SetTable.{SetTable}
use Rattle.tables.proofs.roll.put_rolled.Goals as goal

pub returns-in_ok-push-in-Some : goal.returns-in_ok-push-in-Some
returns-in_ok-push-in-Some c =
    let made : SetTable = record { set = c.args.roll.set; table = c.in-Some.table; index = Some c.args.roll.index } in
    (made, refl, refl, c.in-Some.is, c.in_ok-push-in-Some.ensures.items)
