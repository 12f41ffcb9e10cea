use Rattle.group_tables.proofs.Rolled.{members-partition}
use Rattle.group_tables.proofs.Rolling.{group-rolled}
use Rattle.group_tables.proofs.laws.roll_law.Goals as goal

pub returns-clause-members : goal.returns-clause-members
returns-clause-members c finer set key rows a = members-partition finer set key rows a

pub returns-clause-groups : goal.returns-clause-groups
returns-clause-groups c finer set functions table rolled a key group rows is b e = group-rolled finer set functions table rolled key group rows a is b e
