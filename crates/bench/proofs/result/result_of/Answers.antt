use Rattle.std.proofs.Common.{◌≡◌, ◌∙◌, length, arith}
use denote.Param.Send.{sendable}
use Rattle.tables.proofs.Sharing.{parallel_sync, job_by_sync}
use Rattle.jlreport_scan.proofs.Cuts.{same-lines}
use Rattle.jlreport_scan.proofs.Pooled.{few-loads}
use Rattle.bench.proofs.Stands.{is-job, stands-for}
use Rattle.bench.proofs.result.result_of.Goals as goal

pub fan_out-requires-sync-W : goal.fan_out-requires-sync-W
fan_out-requires-sync-W g c κs within = search (job_by_sync, parallel_sync, sendable) depth 20

pub fan_out-requires-clause-loads : goal.fan_out-requires-clause-loads
fan_out-requires-clause-loads g c κs within =
    let pieces = c.in-Ok.pieces in
    let job = is-job _ _ _ _ _ _ c.new-job.ensures.job c.new.ensures.plan c.new.ensures.input c.new.ensures.pieces c.as_slice.ensures.value in
    let count : c.len-2.result ≡ length pieces.items = grind (arith, c.len-2.ensures, pieces.ok) in
    let lines = same-lines c.args.input.now 0 pieces.items ∙ c.in-Ok.ensures.lines in
    let short = c.requires.short in
    let few = few-loads _ _ _ _ _ _ _ 0 job.plan_is job.input_is job.pieces_are count c.job_law.ensures.lines lines (omega (arith, short)) in
    omega (arith, few)

pub returns-in-Ok-Whole : goal.returns-in-Ok-Whole
returns-in-Ok-Whole g c =
    let job = is-job _ _ _ _ _ _ c.new-job.ensures.job c.new.ensures.plan c.new.ensures.input c.new.ensures.pieces c.as_slice.ensures.value in
    let few = c.if-len-gt-MAX_PIECES.false in
    record {
      of_plan = stands-for _ _ _ _ _ c.len-2.result _ c.in-Ok-Whole.field-0 c.in-Ok-Whole.result job c.new-job.ensures.first (grind (arith, c.len-2.ensures, c.in-Ok.pieces.ok))
          (omega (arith, few)) c.job_law.ensures.whole_by c.in-Ok-Whole.field-0-is c.in-Ok-Whole.ensures.decided;
    }
