use Rattle.part_lines.proofs.Rows.{lines-text_of, text-no_control}
use Rattle.part_lines.proofs.Same.{line_value-same}
use Rattle.part_lines.proofs.Spellings.{line_value-text, text-line_value}
use Rattle.part_lines.proofs.laws.text_law.Goals as goal

pub returns-clause-again : goal.returns-clause-again
returns-clause-again c = line_value-text

pub returns-clause-same : goal.returns-clause-same
returns-clause-same c = line_value-same

pub returns-clause-alone : goal.returns-clause-alone
returns-clause-alone c = text-line_value

pub returns-clause-lines : goal.returns-clause-lines
returns-clause-lines c = lines-text_of

pub returns-clause-no_control : goal.returns-clause-no_control
returns-clause-no_control c = text-no_control
