use Rattle.std.proofs.Common.{ap}
use Rattle.semantics.specs.Aggregates.{plain}
use Rattle.report_rows.proofs.source.name_source.Goals as goal

pub returns-in-Some-clause-shown : goal.returns-in-Some-clause-shown
returns-in-Some-clause-shown c = λ key cells. ap plain (c.in-Some.ensures.shown key)

pub returns-in-None-clause-shown : goal.returns-in-None-clause-shown
returns-in-None-clause-shown c = λ key cells. ap plain (c.in-None.ensures.shown key)
