use Rattle.std.proofs.Common.{refl, subst}
use Rattle.std.proofs.KnownBytes.{Keeps-refl}
use Rattle.std.proofs.lemmas.Result.{on_ok_weaker}
use Rattle.std.specs.Fn.{Called}
use Rattle.semantics.specs.Explanation.{IsAnswerable}
use Rattle.jlreport_engine.proofs.Served.{ends-explained, ends-run, ends-unopened, written}
use Rattle.jlreport_engine.proofs.program.execute.Goals as goal

pub returns-then-settings-clause-ends : goal.returns-then-settings-clause-ends
returns-then-settings-clause-ends g c =
    let asked = c.args.settings in
    let plan = c.in_ok-plan.plan in
    let good : IsAnswerable asked.columns.now asked.query.now = record { fields = plan.fields; form = plan.query; schema = c.in_ok-plan.ensures.schema; derived = c.in_ok-plan.ensures.query; faultless = c.in_ok-plan.ensures.faultless } in
    ends-explained g.F.FnMut c.args.opener.now c.args.opener.now g.R.Read.remaining asked.columns.now asked.query.now asked.file.now asked.explain asked.join asked.partial asked.options.max_refused
    c.write_explanation.result (g.O.Write.contents c.args.out.now) (g.O.Write.contents c.write_explanation.new.out) (g.E.Write.contents c.args.err.now) (g.E.Write.contents c.args.err.now)
    good c.if-settings.true c.write_explanation.ensures (Keeps-refl (g.E.Write.contents c.args.err.now)) refl

pub returns-clause-ends : goal.returns-clause-ends
returns-clause-ends g c =
    let asked = c.args.settings in
    let plan = c.in_ok-plan.plan in
    let good : IsAnswerable asked.columns.now asked.query.now = record { fields = plan.fields; form = plan.query; schema = c.in_ok-plan.ensures.schema; derived = c.in_ok-plan.ensures.query; faultless = c.in_ok-plan.ensures.faultless } in
    ends-unopened g.F.FnMut c.args.opener.now c.opener.new.self g.R.Read.remaining asked.columns.now asked.query.now asked.file.now asked.explain asked.join asked.partial asked.options.max_refused
    _ (g.O.Write.contents c.args.out.now) (g.O.Write.contents c.args.out.now) (g.E.Write.contents c.args.err.now) (g.E.Write.contents c.args.err.now)
    good c.if-settings.false
    (record { shown = c.args.settings.file; shows = refl; called = subst (λ r. Called g.F.FnMut c.args.opener.now (c.args.settings.file, tt) r c.opener.new.self) c.in-None.is c.opener.ensures })
    refl (Keeps-refl (g.O.Write.contents c.args.out.now)) (Keeps-refl (g.E.Write.contents c.args.err.now))

pub returns-in-Some-clause-ends : goal.returns-in-Some-clause-ends
returns-in-Some-clause-ends g c =
    let asked = c.args.settings in
    let plan = c.in_ok-plan.plan in
    let good : IsAnswerable asked.columns.now asked.query.now = record { fields = plan.fields; form = plan.query; schema = c.in_ok-plan.ensures.schema; derived = c.in_ok-plan.ensures.query; faultless = c.in_ok-plan.ensures.faultless } in
    ends-run g.F.FnMut c.args.opener.now c.opener.new.self g.R.Read.remaining asked.columns.now asked.query.now asked.file.now asked.explain asked.join asked.partial asked.options.max_refused
    c.answer.result (g.O.Write.contents c.args.out.now) (g.O.Write.contents c.answer.new.out) (g.E.Write.contents c.args.err.now) (g.E.Write.contents c.answer.new.err)
    good c.if-settings.false c.in-Some.reader
    (record { shown = c.args.settings.file; shows = refl; called = subst (λ r. Called g.F.FnMut c.args.opener.now (c.args.settings.file, tt) r c.opener.new.self) c.in-Some.is c.opener.ensures })
    c.answer.ensures

pub returns-then-settings-clause-explains : goal.returns-then-settings-clause-explains
returns-then-settings-clause-explains g c asks =
    let plan = c.in_ok-plan.plan in
    on_ok_weaker c.write_explanation.result
    (λ written. record {
      answerable = record { fields = plan.fields; form = plan.query; schema = c.in_ok-plan.ensures.schema; derived = c.in_ok-plan.ensures.query; faultless = c.in_ok-plan.ensures.faultless };
      written = written;
    })
    (written _ c.write_explanation.result (g.O.Write.contents c.args.out.now) (g.O.Write.contents c.write_explanation.new.out) c.write_explanation.ensures)
