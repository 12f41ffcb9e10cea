use Rattle.group_tables.proofs.Covering.{members-bag, lines-add_up}
use Rattle.group_tables.proofs.laws.members_law.Goals as goal

pub returns-clause-members : goal.returns-clause-members
returns-clause-members c = members-bag

pub returns-clause-lines : goal.returns-clause-lines
returns-clause-lines c = lines-add_up
