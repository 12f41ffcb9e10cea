use Rattle.group_tables.proofs.AnyOrder.{table-same}
use Rattle.group_tables.proofs.laws.order_law.Goals as goal

pub returns : goal.returns
returns c = table-same
