use Rattle.std.proofs.Common.{◌∙◌, ap, Ok}
use Rattle.parts.specs.Inside.Reader.{left_at}
use Rattle.parts.proofs.Taking.{ends-there, taken-there}
use Rattle.parts.proofs.reader.PartReaderValueReader.next.Goals as goal

pub invariant_of-self : goal.invariant_of-self
invariant_of-self g c = c.find_line.ensures.at_line c.self.inside.line c.self.invariant

pub returns-in-Ok-false-clause-read : goal.returns-in-Ok-false-clause-read
returns-in-Ok-false-clause-read g c =
    rw (c.ends_at.ensures, ← c.self.view_is)
    (λ known. ends-there (left_at c.self.inside.rounds c.self.inside.place) c.self.inside.line known (c.find_line.ensures.none (c.in-Ok-false.is ∙ ap Ok c.in-Ok-false.field-0-test)))

pub invariant_of-self-in-Err : goal.invariant_of-self-in-Err
invariant_of-self-in-Err g c = c.find_line.ensures.at_line c.self.inside.line c.self.invariant

pub invariant_of-self-2 : goal.invariant_of-self-2
invariant_of-self-2 g c = c.take_line-value.ensures.at_line c.self.inside.line (c.find_line.ensures.at_line c.self.inside.line c.self.invariant)

pub returns-clause-read : goal.returns-clause-read
returns-clause-read g c =
    let here = c.find_line.ensures.at_line c.self.inside.line c.self.invariant in
    let keeps = rw (c.in-Ok-true.is) at c.find_line.ensures.keeps in
    rw (c.at_line.ensures, ← c.self.view_is)
    (taken-there c.find_line.new.rounds (left_at c.self.inside.rounds c.self.inside.place) c.find_line.new.place c.take_line-value.new.place c.self.inside.line c.take_line-value.result keeps (c.take_line-value.ensures.read c.self.inside.line here))
