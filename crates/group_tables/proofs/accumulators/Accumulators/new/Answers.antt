use Rattle.std.proofs.Common.{take, sym, subst, List}
use Rattle.group_tables.specs.Accumulator.{AccumulatorState}
use Rattle.group_tables.specs.Inside.Group.{IsSound}
use Rattle.group_tables.proofs.Keeping.{none-sound}
use Rattle.group_tables.proofs.accumulators.Accumulators.new.Goals as goal

pub invariant_of-result : goal.invariant_of-result
invariant_of-result c = subst (λ (ks : List AccumulatorState). IsSound 0 ks) (sym c.loop-function.invariant) (none-sound (take c.loop-function.function-index c.args.functions.now))
