use Rattle.std.proofs.Common.{◌≡◌, arith, subst, sym, true}
use Rattle.std.specs.Prelude.{IfOk}
use Rattle.semantics.specs.Explanation.{Explains}
use Rattle.jlreport_engine.proofs.Served.{on-done}
use Rattle.jlreport_engine.proofs.program.serve.Goals as goal

pub returns-in-Ok-clause-explains : goal.returns-in-Ok-clause-explains
returns-in-Ok-clause-explains g c =
    subst (λ asked. IfOk asked (λ settings. settings.explain ≡ true → c.tell.result ≡ 0
    → Explains settings.columns.now settings.query.now (g.O.Write.contents c.args.out.now) (g.O.Write.contents c.execute-end.new.out)))
    (sym c.in-Ok.is)
    (λ asks zero. on-done _ c.execute-end.result (c.execute-end.ensures.explains asks) (c.tell.ensures.done (omega (arith, zero))))
