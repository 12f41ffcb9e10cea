use Rattle.group_tables.specs.Table.{both_tables}
use Rattle.group_tables.proofs.Counted.{both-counted, records-counted}
use Rattle.group_tables.proofs.Joint.{both_tables-has}
use Rattle.group_tables.proofs.laws.counted_law.Goals as goal

pub returns-clause-records : goal.returns-clause-records
returns-clause-records c = records-counted

pub returns-clause-joined : goal.returns-clause-joined
returns-clause-joined c = λ m n functions a b p q. both-counted m n functions a b (both_tables a b) p q (both_tables-has a b)
