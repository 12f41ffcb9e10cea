use Rattle.std.proofs.lemmas.Result.{IfOk-weaker}
use Rattle.tables.proofs.Standing.{partial-both}
use Rattle.test_partials.proofs.tests.partials.merge.Goals as goal

pub returns : goal.returns
returns g c =
    IfOk-weaker c.merge.result _ _ (λ partial is. partial-both c.args.plan.now _ _ partial c.requires.left c.requires.right is) c.merge.ensures
