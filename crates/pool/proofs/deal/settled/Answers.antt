use Rattle.std.proofs.Common.{subst}
use Rattle.pool.specs.Settled.{AllSpent}
use Rattle.pool.proofs.Fronts.{run_each_once, run_none_twice}
use Rattle.pool.proofs.deal.settled.Goals as goal

pub returns-clause-whole : goal.returns-clause-whole
returns-clause-whole c = λ yes. run_each_once c.args.hands.now c.requires.deal c.compare_all.ensures.run (subst AllSpent c.compare_all.ensures.same (c.are_all_spent.ensures.0 yes))

pub returns-clause-once : goal.returns-clause-once
returns-clause-once c = run_none_twice c.args.hands.now c.requires.deal c.compare_all.ensures.run
