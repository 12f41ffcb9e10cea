use Rattle.std.proofs.Common.{◌≡◌, take}
use Rattle.report.specs.Report.{refusals_of}
use Rattle.report.proofs.refused_lines.refused_text.Given as goal

abbrev pub invariant-loop-number : goal.invariant-loop-number
invariant-loop-number l = l.text.items ≡ refusals_of l.schema (take l.number-index l.groups.refused)
