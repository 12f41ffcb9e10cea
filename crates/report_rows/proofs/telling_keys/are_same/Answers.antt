use Rattle.std.proofs.Common.{sym}
use Rattle.report_rows.proofs.CodedKeys.{not-same}
use Rattle.report_rows.proofs.telling_keys.are_same.Goals as goal

pub returns-then-first-second : goal.returns-then-first-second
returns-then-first-second c = sym (not-same c.args.first.now c.args.second.now c.if-first-second.true)
