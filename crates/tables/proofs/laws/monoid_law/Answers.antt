use Rattle.std.proofs.Common.{refl}
use Rattle.tables.specs.Laws.{both-assoc, both-flip, unit-both}
use Rattle.tables.specs.Partials.{both}
use Rattle.tables.proofs.Standing.{partial-both}
use Rattle.tables.proofs.laws.monoid_law.Goals as goal

pub returns-clause-closed : goal.returns-clause-closed
returns-clause-closed c = λ plan first second a b. partial-both plan first second (both first second) a b refl

pub returns-clause-unit : goal.returns-clause-unit
returns-clause-unit c = unit-both

pub returns-clause-commutative : goal.returns-clause-commutative
returns-clause-commutative c = both-flip

pub returns-clause-associative : goal.returns-clause-associative
returns-clause-associative c = both-assoc
