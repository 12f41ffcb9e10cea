use Rattle.sort_keys.proofs.Told.{parts-apart}
use Rattle.sort_keys.proofs.laws.parts_law.Goals as goal

pub returns : goal.returns
returns c = parts-apart
