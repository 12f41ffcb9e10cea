use Rattle.lines_json.proofs.Parts.{four_digits}
use Rattle.lines_json.proofs.escapes.code_unit.Goals as goal

pub returns : goal.returns
returns c =
    let first = c.in_ok-first.ensures in
    let second = c.in_ok-second.ensures in
    let third = c.in_ok-third.ensures in
    let fourth = c.in_ok-fourth.ensures in
    four_digits _ _ _ _ c.in_ok-first.first c.in_ok-second.second c.in_ok-third.third c.in_ok-fourth.fourth (first.0) (second.0) (third.0) (fourth.0) (first.1) (second.1) (third.1) (fourth.1)
