use Rattle.group_tables.proofs.SameRecords.{keys-same, members-same, summaries-same}
use Rattle.group_tables.proofs.laws.records_law.Goals as goal

pub returns-clause-keys : goal.returns-clause-keys
returns-clause-keys c = keys-same

pub returns-clause-members : goal.returns-clause-members
returns-clause-members c = members-same

pub returns-clause-groups : goal.returns-clause-groups
returns-clause-groups c = summaries-same
