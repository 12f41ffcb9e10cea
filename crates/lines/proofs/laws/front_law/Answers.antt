use Rattle.lines.proofs.Fronts.{valid-whole_lines, lines-whole_lines, refused-whole_lines}
use Rattle.lines.proofs.laws.front_law.Goals as goal

pub returns-clause-lines : goal.returns-clause-lines
returns-clause-lines c = lines-whole_lines

pub returns-clause-valid : goal.returns-clause-valid
returns-clause-valid c = valid-whole_lines

pub returns-clause-refused : goal.returns-clause-refused
returns-clause-refused c = refused-whole_lines
