use Rattle.std.proofs.Common.{◌∙◌}
use Rattle.query_ast.specs.Syntax.{operand_form}
use Rattle.query_eval.proofs.Forms.{null-safe}
use Rattle.query_eval.proofs.Safety.{there}
use Rattle.query_eval.proofs.binder.bind_null_test.Goals as goal

pub returns-clause-safe : goal.returns-clause-safe
returns-clause-safe g c = λ grouped typed values are.
    null-safe c.in_ok-operand.operand c.args.not values
    ∙ there (g.S.Scope.form c.args.scope.now) values (operand_form c.args.operand.now) _ c.in_ok-operand.ensures are
