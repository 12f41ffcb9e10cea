use Rattle.std.proofs.lemmas.Result.{err_from_is_err_and}
use Rattle.jlreport_engine.proofs.Served.{refused-under}
use Rattle.jlreport_engine.proofs.program.plan_of.Goals as goal

pub returns-in_err-plan-clause-refused : goal.returns-in_err-plan-clause-refused
returns-in_err-plan-clause-refused c =
    let p = err_from_is_err_and c.from_residual-in_err-plan.result c.from_residual-in_err-plan.ensures.1 in
    rw (p.1, p.2)
    (refused-under c.args.settings.columns.now c.args.settings.query.now c.in_ok-schema.schema c.in_ok-query.query c.in_err-plan.field-0.0
    c.in_ok-schema.ensures.columns c.in_ok-query.ensures.derived c.in_err-plan.ensures.fault)
