use Rattle.query.proofs.Unique.{one}
use Rattle.query.proofs.laws.derives_one.Goals as goal

pub returns : goal.returns
returns c = one c.spells_one.ensures c.derives_one.ensures
