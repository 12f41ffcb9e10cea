use Rattle.std.proofs.Common.{take}
use Rattle.report.specs.Report.{refusals_of}
use Rattle.jlreport_engine.specs.Inside.Written.{Sends}
use Rattle.jlreport_engine.proofs.writer.put_refused.Given as goal

-- of the list so far the first bytes were written, and the others wait
abbrev pub invariant-loop-number : goal.invariant-loop-number
invariant-loop-number g l = Sends (g.W.Write.contents l.fn.writer) (g.W.Write.contents l.writer) (refusals_of l.schema (take l.number-index l.refused)) l.buffer.items
