use Rattle.parts.proofs.Names.{place-behind}
use Rattle.parts.proofs.line_faults.bad_column.Goals as goal

pub returns-in-Some : goal.returns-in-Some
returns-in-Some c = place-behind c.args.columns.now c.args.text.now c.in-Some.name.now c.place_of.result c.in-Some.ensures c.place_of.ensures
