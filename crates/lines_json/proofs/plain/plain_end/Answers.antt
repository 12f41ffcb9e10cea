use Rattle.std.proofs.Common.{arith}
use Rattle.lines_json.proofs.Marks.{plain-through, plain-to_mark, plain-within}
use Rattle.lines_json.proofs.plain.plain_end.Goals as goal

pub returns-then-marks-ne0 : goal.returns-then-marks-ne0
returns-then-marks-ne0 c =
    let run = plain-to_mark c.args.text.now c.plain.at 16 c.marks-marks.result (omega arith) c.marks-marks.ensures (omega arith) c.if-marks-ne0.true in
    record {
      value = omega (arith, run, c.plain.invariant.plain_left);
      within = omega (arith, run, plain-within c.args.text.now c.plain.at c.plain.invariant.within);
    }

pub plain-preserved : goal.plain-preserved
plain-preserved c =
    let run = plain-through c.args.text.now c.plain.at 16 c.marks-marks.result (omega arith) c.marks-marks.ensures c.if-marks-ne0.false in
    record { plain_left = omega (arith, run, c.plain.invariant.plain_left); within = omega arith }
