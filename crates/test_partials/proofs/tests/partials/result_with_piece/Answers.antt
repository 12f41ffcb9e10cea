use Rattle.std.proofs.lemmas.Result.{IfOk-weaker}
use Rattle.tables.proofs.Standing.{partial-more}
use Rattle.test_partials.proofs.tests.partials.result_with_piece.Goals as goal

pub returns : goal.returns
returns c =
    IfOk-weaker c.fold_onto.result _ _
    (λ partial is. partial-more c.args.plan.now c.args.before partial (record { index = c.args.index; bytes = c.args.bytes.now }) c.requires.of_plan is)
    c.fold_onto.ensures
