use Rattle.std.proofs.Common.{◌∙◌}
use Rattle.query_ast.specs.Syntax.{operand_form}
use Rattle.query_eval.proofs.Forms.{member-safe}
use Rattle.query_eval.proofs.Safety.{both-true, compared-all, there}
use Rattle.query_eval.proofs.binder.bind_membership.Goals as goal

pub returns-clause-safe : goal.returns-clause-safe
returns-clause-safe g c = λ grouped typed values are.
    let scope = g.S.Scope.form c.args.scope.now in
    let x = operand_form c.args.operand.now in
    let tested = c.in_ok-operand.ensures in
    member-safe c.in_ok-operand.operand c.args.not c.in_ok-values.values values
    ∙ both-true _ _ (there scope values x _ tested are)
    (compared-all scope grouped values x _ c.args.literals.now _ tested c.in_ok-values.ensures are typed.0 typed.1)
