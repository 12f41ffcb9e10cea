use Rattle.report_rows.proofs.Rows.{is-blind}
use Rattle.report_rows.proofs.laws.arranged_law.Goals as goal

pub returns : goal.returns
returns c = is-blind
