use Rattle.parts.proofs.Places.{line-ended, line-unended}
use Rattle.parts.proofs.reader.end_of_line.Goals as goal

pub returns-in-Some : goal.returns-in-Some
returns-in-Some c = line-ended c.args.round.now c.args.place c.in-Some.len c.in-Some.ensures

pub returns-in-None : goal.returns-in-None
returns-in-None c = line-unended c.args.round.now c.args.place c.requires c.in-None.ensures
