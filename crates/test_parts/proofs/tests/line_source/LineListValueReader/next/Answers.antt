use Rattle.std.proofs.Common.{Ok, subst}
use Rattle.part_lines.specs.LineValues.{Tells}
use Rattle.part_lines.specs.Reading.{reading_of}
use Rattle.values.specs.Datum.{datum_of}
use Rattle.test_parts.proofs.Lines.{good_line, bad_line, past_lines}
use Rattle.test_parts.proofs.tests.line_source.LineListValueReader.next.Goals as goal

pub returns-in_default-clause-read : goal.returns-in_default-clause-read
returns-in_default-clause-read c = λ known. rw c.fault.ensures (past_lines c.args.self.now.lines.now c.args.self.now.place c.in_default.ensures.lookup.3)

pub returns-in-Some-2-clause-read : goal.returns-in-Some-2-clause-read
returns-in-Some-2-clause-read c = λ known.
    let h = c.in-Some.ensures.lookup in
    let read = subst (λ o. Tells (Ok o) (reading_of c.in-Some.line.now.now)) c.in-Some-2.is c.in_ok-value.ensures in
    good_line c.args.self.now.lines.now c.args.self.now.place c.in-Some.line.now h.3.0 h.1 (datum_of c.in-Some-2.value) read

pub returns-in-None-clause-read : goal.returns-in-None-clause-read
returns-in-None-clause-read c = λ known.
    let h = c.in-Some.ensures.lookup in
    let none = subst (λ o. Tells (Ok o) (reading_of c.in-Some.line.now.now)) c.in-None.is c.in_ok-value.ensures in
    rw c.fault-in-None.ensures (bad_line c.args.self.now.lines.now c.args.self.now.place c.in-Some.line.now h.3.0 h.1 none)
