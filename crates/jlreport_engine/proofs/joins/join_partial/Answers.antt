use Rattle.lines.specs.Clip.{clip_lines}
use Rattle.parts.specs.ReadingParts.{parts_at}
use Rattle.semantics.specs.Lines.{lines}
use Rattle.jlreport_engine.proofs.JoinLemmas.{answers-run, is-partial-join, join-unseeded, partial-join-stopped, reads-done, reads-stopped, reads-unseeded, started-done, started-stopped, started-unseeded}
use Rattle.jlreport_engine.proofs.joins.join_partial.Goals as goal

pub returns-clause-join : goal.returns-clause-join
returns-clause-join g c =
    let joined = c.in_ok-whole.ensures in
    is-partial-join c.write_whole_part.result c.map_err.result c.args.options.max_refused c.args.plan.now (g.R.Read.remaining c.args.reader) c.in_ok-whole.whole
    (g.O.Write.contents c.args.out.now) (g.O.Write.contents c.write_whole_part.new.out)
    (answers-run c.write_whole_part.result c.map_err.result c.map_err.ensures.cases) c.write_whole_part.ensures.run joined.within joined.stands

pub returns-clause-reads : goal.returns-clause-reads
returns-clause-reads g c =
    reads-done c.write_whole_part.result c.map_err.result (g.R.Read.remaining c.args.reader) (λ bytes. parts_at c.args.plan.now.fields c.args.plan.now.query (lines (clip_lines bytes)))
    (answers-run c.write_whole_part.result c.map_err.result c.map_err.ensures.cases) c.in_ok-whole.ensures.reads

pub returns-clause-started : goal.returns-clause-started
returns-clause-started g c =
    started-done c.write_whole_part.result c.map_err.result (answers-run c.write_whole_part.result c.map_err.result c.map_err.ensures.cases) c.write_whole_part.ensures.started

pub returns-in_err-whole-clause-join : goal.returns-in_err-whole-clause-join
returns-in_err-whole-clause-join g c =
    partial-join-stopped c.from_residual-in_err-whole.result c.in_err-whole.field-0.0 c.args.options.max_refused c.args.plan.now (g.R.Read.remaining c.args.reader)
    (g.O.Write.contents c.args.out.now) c.from_residual-in_err-whole.ensures.1 c.in_err-whole.ensures.stops

pub returns-in_err-whole-clause-reads : goal.returns-in_err-whole-clause-reads
returns-in_err-whole-clause-reads g c =
    reads-stopped c.from_residual-in_err-whole.result c.in_err-whole.field-0.0 (g.R.Read.remaining c.args.reader) (λ bytes. parts_at c.args.plan.now.fields c.args.plan.now.query (lines (clip_lines bytes)))
    c.from_residual-in_err-whole.ensures.1 c.in_err-whole.ensures.reads

pub returns-in_err-whole-clause-started : goal.returns-in_err-whole-clause-started
returns-in_err-whole-clause-started g c = started-stopped c.from_residual-in_err-whole.result c.in_err-whole.field-0.0 c.from_residual-in_err-whole.ensures.1 c.in_err-whole.ensures.started

pub returns-in_err-seed-clause-join : goal.returns-in_err-seed-clause-join
returns-in_err-seed-clause-join g c =
    partial-join-stopped c.from_residual.result c.in_err-seed.field-0.0 c.args.options.max_refused c.args.plan.now (g.R.Read.remaining c.args.reader)
    (g.O.Write.contents c.args.out.now) c.from_residual.ensures.1
    (join-unseeded c.in_err-seed.field-0.0 c.args.options.max_refused c.args.plan.now (g.R.Read.remaining c.args.reader) c.in_err-seed.ensures)

pub returns-in_err-seed-clause-reads : goal.returns-in_err-seed-clause-reads
returns-in_err-seed-clause-reads g c =
    reads-stopped c.from_residual.result c.in_err-seed.field-0.0 (g.R.Read.remaining c.args.reader) (λ bytes. parts_at c.args.plan.now.fields c.args.plan.now.query (lines (clip_lines bytes)))
    c.from_residual.ensures.1 (reads-unseeded c.in_err-seed.field-0.0 (g.R.Read.remaining c.args.reader) _ c.in_err-seed.ensures)

pub returns-in_err-seed-clause-started : goal.returns-in_err-seed-clause-started
returns-in_err-seed-clause-started g c =
    started-stopped c.from_residual.result c.in_err-seed.field-0.0 c.from_residual.ensures.1 (started-unseeded c.in_err-seed.field-0.0 c.in_err-seed.ensures)
