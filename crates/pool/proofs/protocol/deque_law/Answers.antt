use Rattle.pool.proofs.Rules.{accounted}
use Rattle.pool.proofs.protocol.deque_law.Goals as goal

pub returns : goal.returns
returns c items views dealt = accounted items views dealt
