use Rattle.std.proofs.Common.{◌≤◌, length, arith}
use Rattle.std.proofs.lemmas.Bool.Decides.{nat_tests}
use Rattle.parts.proofs.Places.{moved-keeps}
use Rattle.parts.proofs.reader.find_line.Goals as goal

pub returns-clause-keeps : goal.returns-clause-keeps
returns-clause-keeps g c =
    let past : length c.args.rounds.now.round ≤ c.args.place.now = grind (arith, nat_tests) in
    moved-keeps c.args.rounds.now c.advance.new.self c.args.place.now past c.advance.result c.advance.ensures
