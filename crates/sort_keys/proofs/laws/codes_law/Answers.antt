use Rattle.sort_keys.proofs.Values.{codes-in-order}
use Rattle.sort_keys.proofs.laws.codes_law.Goals as goal

pub returns : goal.returns
returns c = codes-in-order
