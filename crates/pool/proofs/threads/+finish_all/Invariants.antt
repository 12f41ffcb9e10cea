use Rattle.std.proofs.Common.{vec_len}
use Rattle.pool.proofs.threads.+finish_all.Given as goal

abbrev pub decreases-finish_all : goal.decreases-finish_all
decreases-finish_all g l = vec_len l.gathered
