use Rattle.parts.proofs.Places.{found-line}
use Rattle.parts.proofs.reader.PartReader.has_line.Goals as goal

pub invariant_of-self : goal.invariant_of-self
invariant_of-self g c = c.find_line.ensures.at_line c.self.inside.line c.self.invariant

pub returns-clause-none : goal.returns-clause-none
returns-clause-none g c =
    rw (← c.self.view_is)
    (found-line c.self.inside.rounds c.find_line.new.rounds c.self.inside.place c.find_line.new.place c.find_line.result c.find_line.ensures.keeps c.find_line.ensures.some c.find_line.ensures.none)
