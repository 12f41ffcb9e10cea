use Rattle.std.proofs.Common.{sym}
use Rattle.group_tables.specs.Inside.ValueSets.{listed}
use Rattle.group_tables.proofs.Sets.{held-insert}
use Rattle.group_tables.proofs.value_set.ValueSet.insert_copy.Goals as goal

pub returns-then-contains : goal.returns-then-contains
returns-then-contains c = held-insert (listed c.args.self.now) c.args.value.now (sym c.if-contains.ensures)
