use Rattle.std.proofs.Common.{sym, subst}
use Rattle.pool.specs.Settled.{AreAll}
use Rattle.test_pool.proofs.tests.nothing_to_deal.Goals as goal

pub is_spent_late-requires-clause-deal : goal.is_spent_late-requires-clause-deal
is_spent_late-requires-clause-deal g c = subst AreAll (sym c.into_hands-hands.ensures) c.in_ok-new.ensures.0

pub settled-requires : goal.settled-requires
settled-requires g c = record { deal = subst AreAll (sym c.as_mut_slice.ensures.value) c.is_spent_late-3.ensures.deal }
