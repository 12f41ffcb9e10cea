use Rattle.query_parser.proofs.Complete.{one}
use Rattle.query_parser.proofs.laws.derives_one.Goals as goal

pub returns : goal.returns
returns c = one
