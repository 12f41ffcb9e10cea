use Rattle.tables.specs.Laws.{pieces-append}
use Rattle.tables.proofs.laws.pieces_law.Goals as goal

pub returns : goal.returns
returns c = pieces-append
