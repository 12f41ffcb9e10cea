use Rattle.tables.proofs.Totals.{lines-all, refused-all, total-all, total-from}
use Rattle.tables.proofs.laws.job_law.Goals as goal

pub returns-clause-whole : goal.returns-clause-whole
returns-clause-whole c = total-all

pub returns-clause-whole_by : goal.returns-clause-whole_by
returns-clause-whole_by c = total-from

pub returns-clause-refused : goal.returns-clause-refused
returns-clause-refused c = refused-all

pub returns-clause-lines : goal.returns-clause-lines
returns-clause-lines c = lines-all
