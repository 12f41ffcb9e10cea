use Rattle.query.proofs.Again.{again}
use Rattle.query.proofs.laws.reads_again.Goals as goal

pub returns : goal.returns
returns c = again
