use Rattle.std.proofs.Common.{◌≡◌, vec_len}
use Rattle.pool.specs.Inside.Assembly.{AreFilled}
use Rattle.pool.proofs.seats.fill_all.Given as goal

abbrev pub invariant-loop-i : goal.invariant-loop-i
invariant-loop-i l = (vec_len l.deques ≡ vec_len l.fn.deques) × AreFilled (vec_len l.fn.deques) l.i l.deques.items
