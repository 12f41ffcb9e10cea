use Rattle.std.proofs.Common.{subst}
use Rattle.tables.specs.Planned.{FitSomePlan}
use Rattle.tables.specs.States.{GroupsState}
use Rattle.tables.proofs.groups.Groups.rows.Goals as goal

pub returns-clause-fit : goal.returns-clause-fit
returns-clause-fit c = subst (λ (v : GroupsState). FitSomePlan v.found) c.self.view_is c.self.inside.fit
