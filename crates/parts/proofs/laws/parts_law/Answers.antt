use Rattle.parts.proofs.Trees.{closed-part, halves-joined, joins-joined}
use Rattle.parts.proofs.laws.parts_law.Goals as goal

pub returns-clause-joins : goal.returns-clause-joins
returns-clause-joins c = joins-joined

pub returns-clause-closes : goal.returns-clause-closes
returns-clause-closes c = closed-part

pub returns-clause-front : goal.returns-clause-front
returns-clause-front c = halves-joined
