use Rattle.tables.proofs.Runs.{longer-run}
use Rattle.tables.proofs.refusals.Run.take.Goals as goal

pub returns-clause-taken : goal.returns-clause-taken
returns-clause-taken c = λ _. let h = c.is_before.ensures.0 c.if-not-is_before.false in longer-run c.args.self.now c.args.number c.args.fault h.0 h.1
