use Rattle.std.proofs.Common.{◌+◌, ap, arith}
use Rattle.lines_json.proofs.Marks.{last-through, last-to_mark, plain-within}
use Rattle.lines_json.proofs.plain.last_plain_end.Goals as goal

pub returns-then-marks-eq0 : goal.returns-then-marks-eq0
returns-then-marks-eq0 c = record {
  value = last-through c.args.text.now c.args.from 16 c.marks.result c.requires.within c.if-text-lt16.false (omega arith) c.marks.ensures c.if-marks-eq0.true;
  within = omega arith;
}

pub returns-else-marks-eq0 : goal.returns-else-marks-eq0
returns-else-marks-eq0 c =
    let run = last-to_mark c.args.text.now c.args.from 16 c.marks.result c.requires.within c.if-text-lt16.false (omega arith) c.marks.ensures (omega arith) c.if-marks-eq0.false in
    record {
      value = ap (λ k. c.args.from + k) run;
      within = omega (arith, run, plain-within c.args.text.now c.args.from c.requires.within);
    }
