use Rattle.tables.specs.Laws.{pieces-same}
use Rattle.tables.proofs.laws.order_law.Goals as goal

pub returns : goal.returns
returns c = pieces-same
