use Rattle.std.proofs.Common.{◌<◌, ◌-◌, rules, vec_len, arith}
use Rattle.tables.proofs.Runs.{longer-last}
use Rattle.tables.proofs.refusals.lengthen_last.Goals as goal

pub returns-in-Some-clause-longer : goal.returns-in-Some-clause-longer
returns-in-Some-clause-longer c = λ taken.
    let runs = c.args.runs.now in
    let ok = runs.ok in
    let some : 0 < vec_len runs = search rules in
    longer-last runs.items (vec_len runs - 1) c.in-Some.run'.now c.take.new.self (c.args.number, c.args.fault) (omega (arith, ok, some)) c.in-Some.ensures.value (c.take.ensures.taken taken)
