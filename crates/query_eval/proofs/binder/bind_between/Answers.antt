use Rattle.std.proofs.Common.{◌∙◌}
use Rattle.query_ast.specs.Syntax.{operand_form}
use Rattle.query_eval.proofs.Forms.{between-safe}
use Rattle.query_eval.proofs.Safety.{both-true, compared, there}
use Rattle.query_eval.proofs.binder.bind_between.Goals as goal

pub returns-clause-safe : goal.returns-clause-safe
returns-clause-safe g c = λ grouped typed values are.
    let scope = g.S.Scope.form c.args.scope.now in
    let x = operand_form c.args.operand.now in
    let y = operand_form c.args.low.now in
    let z = operand_form c.args.high.now in
    let tested = c.in_ok-operand.ensures in
    let ends = c.in_ok-low.ensures in
    between-safe c.in_ok-operand.operand c.args.not c.in_ok-low.low c.in_ok-low.high values
    ∙ both-true _ _ (there scope values x _ tested are)
    (both-true _ _ (there scope values y _ ends.0 are)
    (both-true _ _ (there scope values z _ ends.1 are)
    (both-true _ _
    (compared scope grouped values x y _ _ tested ends.0 are typed.0 typed.1 typed.3)
    (compared scope grouped values x z _ _ tested ends.1 are typed.0 typed.2 typed.4))))
