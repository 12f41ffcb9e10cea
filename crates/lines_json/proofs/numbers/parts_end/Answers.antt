use Rattle.std.proofs.lemmas.Option.{IfSome_then}
use Rattle.json.specs.Word.{after_number}
use Rattle.lines_json.proofs.Passed.{part-then}
use Rattle.lines_json.proofs.numbers.parts_end.Goals as goal

pub returns : goal.returns
unfolding after_number
returns c =
    let text = c.args.text.now in
    let whole = part-then text c.args.at c.minus_end.result c.in_ok-point.point c.minus_end.ensures c.in_ok-point.ensures in
    let fraction = part-then text c.args.at c.in_ok-point.point c.in_ok-power.power whole c.in_ok-power.ensures in
    IfSome_then c.exponent_end.result c.exponent_end.ensures (λ stop part. part-then text c.args.at c.in_ok-power.power stop fraction part)
