use Rattle.std.proofs.Common.{◌≡◌, vec_len}
use Rattle.pool.specs.Inside.Assembly.{AreFilled}
use Rattle.pool.proofs.seats.empty_deques.Given as goal

abbrev pub invariant-loop-d : goal.invariant-loop-d
invariant-loop-d l = (vec_len l.deques ≡ l._d) × AreFilled l.hands 0 l.deques.items
