use Rattle.std.proofs.Common.{subst}
use Rattle.std.specs.Prelude.{IfErr, OnOk}
use Rattle.semantics.specs.Run.{IsWithin}
use Rattle.jlreport_engine.specs.Inside.Joined.{IsOver}
use Rattle.jlreport_engine.proofs.JoinLemmas.{IsRead, of-mapped, of-over, of-read, of-refusal}
use Rattle.jlreport_engine.proofs.joins.join_within.Goals as goal

pub returns : goal.returns
returns g c =
    let limit = c.args.options.max_refused in
    let plan = c.args.plan.now in
    let given = g.R.Read.remaining c.args.reader in
    let whole = c.in_ok-whole.whole in
    of-read limit plan given whole
    (of-mapped (IsRead plan given) c.read_parts.result c.map_err.result _ whole c.map_err.ensures.cases c.in_ok-whole.was (record { sound = c.read_parts.ensures.sound; answers = c.read_parts.ensures.answers; stands = c.read_parts.ensures.stands; takes = c.read_parts.ensures.takes }))
    (subst (IsWithin limit) c.refused.ensures.refused
    (of-mapped (λ r. OnOk r (IsWithin limit c.refused.result)) c.check_limit.result c.map_err-2.result _ c.in_ok-map_err.field-0 c.map_err-2.ensures.cases c.in_ok-map_err.was c.check_limit.ensures.within))

pub returns-in_err-whole : goal.returns-in_err-whole
returns-in_err-whole g c =
    of-refusal c.args.options.max_refused c.args.plan.now (g.R.Read.remaining c.args.reader) c.read_parts.result c.map_err.result c.from_residual.result c.in_err-whole.field-0.0
    c.map_err.ensures.cases c.in_err-whole.was c.from_residual.ensures.1
    (record { sound = c.read_parts.ensures.sound; answers = c.read_parts.ensures.answers; stands = c.read_parts.ensures.stands; takes = c.read_parts.ensures.takes })

pub returns-in_err-map_err : goal.returns-in_err-map_err
returns-in_err-map_err g c =
    let limit = c.args.options.max_refused in
    let plan = c.args.plan.now in
    let given = g.R.Read.remaining c.args.reader in
    let whole = c.in_ok-whole.whole in
    of-over limit plan given whole c.check_limit.result c.map_err-2.result c.from_residual-in_err-map_err.result c.in_err-map_err.field-0.0
    c.map_err-2.ensures.cases c.in_err-map_err.was c.from_residual-in_err-map_err.ensures.1
    (subst (λ count. IfErr c.check_limit.result (IsOver limit count)) c.refused.ensures.refused c.check_limit.ensures.over)
    (of-mapped (IsRead plan given) c.read_parts.result c.map_err.result _ whole c.map_err.ensures.cases c.in_ok-whole.was (record { sound = c.read_parts.ensures.sound; answers = c.read_parts.ensures.answers; stands = c.read_parts.ensures.stands; takes = c.read_parts.ensures.takes }))
