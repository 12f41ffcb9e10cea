use Rattle.pool.proofs.Fronts.{run_each_once, run_none_passed, run_none_twice}
use Rattle.pool.proofs.deal.run_law.Goals as goal

pub returns-clause-once : goal.returns-clause-once
returns-clause-once c hands deal run = run_none_twice hands deal run

pub returns-clause-front : goal.returns-clause-front
returns-clause-front c hands deal run = run_none_passed hands deal run

pub returns-clause-whole : goal.returns-clause-whole
returns-clause-whole c hands deal run all = run_each_once hands deal run all
