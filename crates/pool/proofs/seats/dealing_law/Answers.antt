use Rattle.pool.proofs.Law.{one_place}
use Rattle.pool.proofs.seats.dealing_law.Goals as goal

pub returns : goal.returns
returns c = one_place
