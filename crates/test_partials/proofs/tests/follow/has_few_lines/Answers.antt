use Rattle.std.proofs.Common.{◌<◌, ◌^◌, length, arith}
use Rattle.std.proofs.lemmas.Bool.Decides.{nat_tests}
use Rattle.tables.proofs.Reading.{length-lines}
use Rattle.test_partials.proofs.tests.follow.has_few_lines.Goals as goal

pub returns : goal.returns
returns c = λ e.
    let few : length c.args.bytes.now < 2 ^ 62 = grind (arith, nat_tests, e) in
    omega (arith, few, length-lines c.args.bytes.now)
