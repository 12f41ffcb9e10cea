use Rattle.group_tables.specs.Table.{both_tables}
use Rattle.group_tables.proofs.Joint.{both_tables-has}
use Rattle.group_tables.proofs.Typed.{both-typed, records-typed}
use Rattle.group_tables.proofs.laws.typed_law.Goals as goal

pub returns-clause-records : goal.returns-clause-records
returns-clause-records c = records-typed

pub returns-clause-joined : goal.returns-clause-joined
returns-clause-joined c = λ fields set functions a b p q. both-typed fields set functions a b (both_tables a b) p q (both_tables-has a b)
