use Rattle.std.proofs.Common.{sym, subst}
use Rattle.pool.specs.Settled.{AreAll}
use Rattle.test_runs.proofs.tests.memory.no_memory_for_results.Goals as goal

pub settled-requires : goal.settled-requires
settled-requires g c = record { deal = subst AreAll (sym c.as_mut_slice.ensures.value) (subst AreAll (sym c.into_hands-hands.ensures) c.in_ok-deal.ensures.0) }
