use Rattle.std.proofs.Common.{◌∙◌}
use Rattle.query_ast.specs.Syntax.{operand_form}
use Rattle.query_eval.proofs.Forms.{comparison-safe}
use Rattle.query_eval.proofs.Safety.{both-true, compared, there}
use Rattle.query_eval.proofs.binder.bind_comparison.Goals as goal

pub returns-clause-safe : goal.returns-clause-safe
returns-clause-safe g c = λ grouped typed values are.
    let scope = g.S.Scope.form c.args.scope.now in
    let x = operand_form c.args.left.now in
    let y = operand_form c.args.right.now in
    let given = c.in_ok-left.ensures in
    comparison-safe c.in_ok-left.left c.args.op c.in_ok-left.right values
    ∙ both-true _ _ (there scope values x _ given.0 are)
    (both-true _ _ (there scope values y _ given.1 are)
    (compared scope grouped values x y _ _ given.0 given.1 are typed.0 typed.1 typed.2))
