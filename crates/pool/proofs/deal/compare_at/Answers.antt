use Rattle.std.proofs.Common.{◌∙◌, ◌++◌, ap}
use Rattle.pool.proofs.Deals.{mine_made, before_reach, after_reach}
use Rattle.pool.proofs.Runs.{run_at}
use Rattle.pool.proofs.deal.compare_at.Goals as goal

pub compare_with-requires-clause-count : goal.compare_with-requires-clause-count
compare_with-requires-clause-count c =
    let is = c.split_at_mut-before.ensures.value ∙ ap (λ l. c.split_at_mut-before.result.0.now ++ l) c.in-Some.ensures.cases.0 in
    mine_made c.args.hands.now c.split_at_mut-before.result.0.now c.in-Some.after.now c.in-Some.mine.now c.args.d c.requires.deal is c.split_at_mut-before.ensures.front_len

pub compare_with-requires-clause-after : goal.compare_with-requires-clause-after
compare_with-requires-clause-after c =
    let is = c.split_at_mut-before.ensures.value ∙ ap (λ l. c.split_at_mut-before.result.0.now ++ l) c.in-Some.ensures.cases.0 in
    after_reach c.args.hands.now c.split_at_mut-before.result.0.now c.in-Some.after.now c.in-Some.mine.now c.args.d c.requires.deal is c.split_at_mut-before.ensures.front_len

pub compare_with-requires-clause-before : goal.compare_with-requires-clause-before
compare_with-requires-clause-before c =
    let is = c.split_at_mut-before.ensures.value ∙ ap (λ l. c.split_at_mut-before.result.0.now ++ l) c.in-Some.ensures.cases.0 in
    before_reach c.args.hands.now c.split_at_mut-before.result.0.now c.in-Some.after.now c.in-Some.mine.now c.args.d c.requires.deal is c.split_at_mut-before.ensures.front_len

pub returns-clause-run : goal.returns-clause-run
returns-clause-run c =
    let is = c.split_at_mut-before.ensures.value ∙ ap (λ l. c.split_at_mut-before.result.0.now ++ l) c.in-Some.ensures.cases.0 in
    run_at c.args.hands.now c.split_at_mut-before.result.0.now c.in-Some.after.now c.in-Some.mine.now c.args.d c.requires.deal is c.split_at_mut-before.ensures.front_len c.compare_with.ensures.run
