use Rattle.report_rows.proofs.Rows.{the-order}
use Rattle.report_rows.proofs.laws.order_law.Goals as goal

pub returns : goal.returns
returns c = the-order
