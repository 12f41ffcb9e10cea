use Rattle.std.proofs.Common.{◌∙◌}
use Rattle.semantics.specs.Syntax.{expression, name}
use Rattle.query_eval.proofs.Forms.{name-safe}
use Rattle.query_eval.proofs.Safety.{both-true, there, told}
use Rattle.query_eval.proofs.binder.bind_column.Goals as goal

pub returns-clause-safe : goal.returns-clause-safe
returns-clause-safe g c = λ grouped typed values are.
    let scope = g.S.Scope.form c.args.scope.now in
    let column = c.args.name.now in
    let given = c.name_source.ensures in
    name-safe c.name_source.result values
    ∙ both-true _ _ (there scope values (expression (name column)) _ given are) (told scope grouped values column _ given are typed.0 typed.1)
