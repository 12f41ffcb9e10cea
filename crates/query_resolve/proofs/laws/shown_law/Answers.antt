use Rattle.query_resolve.proofs.Shown.{shown_value}
use Rattle.query_resolve.proofs.laws.shown_law.Goals as goal

pub returns : goal.returns
returns c = λ fields t set key rows f there. shown_value fields t set key rows f there
