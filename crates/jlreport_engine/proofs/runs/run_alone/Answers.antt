use Rattle.jlreport_engine.proofs.Known.{stands-gathered, within}
use Rattle.jlreport_engine.proofs.Outcomes.{run-stopped, stops-gathered}
use Rattle.jlreport_scan.specs.RunFaults.{fault_of_gathering}
use Rattle.jlreport_engine.proofs.runs.run_alone.Goals as goal

pub write_whole-requires-clause-sound : goal.write_whole-requires-clause-sound
write_whole-requires-clause-sound g c =
    let whole = c.in_ok-whole.ensures.gather.is_whole in
    c.sound_law.ensures.of_pieces c.args.plan.now c.in_ok-whole.whole ∣ (whole.stands.pieces, whole.stands.stands) ∣₁

pub returns-clause-run : goal.returns-clause-run
returns-clause-run g c =
    let gathered = c.in_ok-whole.ensures.gather in
    let limit = c.args.options.max_refused in
    let known = g.R.Read.remaining c.args.reader in
    c.write_whole.ensures.run limit known (within limit c.in_ok-whole.whole.refused gathered.is_within)
    (stands-gathered c.args.plan.now known c.in_ok-whole.whole gathered.is_whole)

pub returns-in_err-whole-clause-run : goal.returns-in_err-whole-clause-run
returns-in_err-whole-clause-run g c =
    let fault = c.in_err-whole.field-0.0 in
    let known = g.R.Read.remaining c.args.reader in
    run-stopped c.from_residual.result (fault_of_gathering fault) c.args.options.max_refused c.args.plan.now known
    (g.O.Write.contents c.args.out.now) (g.E.Write.contents c.args.err.now) c.from_residual.ensures.1
    (stops-gathered fault c.args.options.max_refused c.args.plan.now.fields known c.in_err-whole.ensures.gather.stops)
