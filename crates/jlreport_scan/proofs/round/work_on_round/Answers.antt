use Rattle.std.proofs.Common.{◌≡◌, ◌∙◌, ◌+◌, ℕ, List, inr, length, sym, ap, subst, arith}
use Rattle.std.proofs.lemmas.Result.{err_from_is_err_and}
use denote.Param.Send.{sendable}
use Rattle.semantics.specs.Records.{refused_lines}
use Rattle.pool.specs.Fanned.{Settles}
use Rattle.pool.specs.Totals.{sum_below}
use Rattle.pool.proofs.Shares.{grown_within}
use Rattle.query_plan.specs.Planned.{PlannedQuery}
use Rattle.tables.specs.Partials.{StandsFor, of_piece, one_piece}
use Rattle.tables.specs.Pieces.{IndexedPiece, piece_from}
use Rattle.tables.proofs.OnePiece.{as_one-stands}
use Rattle.tables.proofs.Sharing.{parallel_sync, job_by_sync}
use Rattle.jlreport_scan.proofs.Pooled.{IsJobOf, few-loads, grown-by, refused-whole, room-beside, stands-behind, under-of, under-same, weights-counted}
use Rattle.jlreport_scan.proofs.Tallies.{few-refused}
use Rattle.jlreport_scan.proofs.round.work_on_round.Goals as goal

pub fan_deal_onto-requires-sync-W : goal.fan_deal_onto-requires-sync-W
fan_deal_onto-requires-sync-W g c κs within = search (job_by_sync, parallel_sync, sendable) depth 20

pub fan_deal_onto-requires-clause-part : goal.fan_deal_onto-requires-clause-part
fan_deal_onto-requires-clause-part g c κs within =
    let plan = c.args.scan.now.plan.now in
    let pieces = c.in_ok-pieces.pieces in
    let front = c.in_ok-front.front in
    let of = subst (IsJobOf plan c.args.round.now pieces.items) (sym c.new-job.ensures.job)
    record { plan_is = c.new.ensures.plan; input_is = c.new.ensures.input; pieces_are = c.new.ensures.pieces ∙ c.as_slice.ensures.value } in
    let x = c.requires.front in
    subst (λ (p : PlannedQuery). (pieces : List IndexedPiece) × StandsFor p front pieces) (sym of.plan_is)
    (one_piece x.0, as_one-stands plan c.args.before front c.in_ok-front.ensures.stands x.0 x.1)

pub fan_deal_onto-requires-clause-loads : goal.fan_deal_onto-requires-clause-loads
fan_deal_onto-requires-clause-loads g c κs within =
    let pieces = c.in_ok-pieces.pieces in
    let job = c.new-job.result.job in
    let of = subst (IsJobOf c.args.scan.now.plan.now c.args.round.now pieces.items) (sym c.new-job.ensures.job)
    record { plan_is = c.new.ensures.plan; input_is = c.new.ensures.input; pieces_are = c.new.ensures.pieces ∙ c.as_slice.ensures.value } in
    let count : c.len-2.result ≡ length pieces.items = grind (arith, c.len-2.ensures, pieces.ok) in
    let few = few-loads c.args.scan.now.plan.now job.plan.now c.args.round.now job.input.now pieces.items job.pieces.now c.len-2.result c.args.before.lines
    of.plan_is of.input_is of.pieces_are count
    c.job_law.ensures.lines c.in_ok-pieces.ensures.lines c.requires.short in
    let same = c.in_ok-front.ensures.groups.lines in
    omega (arith, few, same)

pub fan_deal_onto-requires-clause-room : goal.fan_deal_onto-requires-clause-room
fan_deal_onto-requires-clause-room g c κs within =
    let pieces = c.in_ok-pieces.pieces in
    let job = c.new-job.result.job in
    let of = subst (IsJobOf c.args.scan.now.plan.now c.args.round.now pieces.items) (sym c.new-job.ensures.job)
    record { plan_is = c.new.ensures.plan; input_is = c.new.ensures.input; pieces_are = c.new.ensures.pieces ∙ c.as_slice.ensures.value } in
    let count : c.len-2.result ≡ length pieces.items = grind (arith, c.len-2.ensures, pieces.ok) in
    let fewer = c.in_ok-front.ensures.fewer in
    let refused_lines = c.in_ok-front.ensures.groups.refused in
    let lines = c.in_ok-front.ensures.groups.lines in
    room-beside (λ share. share.sum) c.args.shares.items c.args.before.refused _
    (few-loads c.args.scan.now.plan.now job.plan.now c.args.round.now job.input.now pieces.items job.pieces.now c.len-2.result c.args.before.refused
    of.plan_is of.input_is of.pieces_are count
    c.job_law.ensures.lines c.in_ok-pieces.ensures.lines (let short = c.requires.short in omega (arith, fewer, refused_lines, lines, short)))
    c.requires.reported

pub whole_of-requires : goal.whole_of-requires
whole_of-requires g c =
    let plan = c.args.scan.now.plan.now in
    let round = c.args.round.now in
    let pieces = c.in_ok-pieces.pieces in
    let front = c.in_ok-front.front in
    let job = c.new-job.result.job in
    let first = c.new-job.result.first in
    let n = c.len-2.result in
    let of = subst (IsJobOf plan round pieces.items) (sym c.new-job.ensures.job)
    record { plan_is = c.new.ensures.plan; input_is = c.new.ensures.input; pieces_are = c.new.ensures.pieces ∙ c.as_slice.ensures.value } in
    let count : n ≡ length pieces.items = grind (arith, c.len-2.ensures, pieces.ok) in
    let weights = weights-counted plan job.plan.now round job.input.now pieces.items job.pieces.now n
    of.plan_is of.input_is of.pieces_are count c.job_law.ensures.refused c.in_ok-pieces.ensures.lines in
    let same = c.in_ok-front.ensures.groups.refused in
    let all = c.args.before.refused + length (refused_lines plan.fields round) in
    let fewer = c.in_ok-front.ensures.fewer in
    let refused_is = c.in_ok-front.ensures.groups.refused in
    let lines_are = c.in_ok-front.ensures.groups.lines in
    let short = c.requires.short in
    let few = few-refused plan.fields round in
    let limit = c.limit_of-limit.ensures in
    let under = under-of front job.plan.now first job.input.now job.pieces.now n _ all c.in_ok-outcome.outcome (omega (arith, weights, same)) c.in_ok-outcome.ensures.decided in
    (all, omega (arith, fewer, refused_is, lines_are, short, few), under-same all _ _ c.in_ok-outcome.outcome (omega (arith, limit)) under)

pub returns-in_err-whole-clause-fault : goal.returns-in_err-whole-clause-fault
returns-in_err-whole-clause-fault g c =
    let plan = c.args.scan.now.plan.now in
    let round = c.args.round.now in
    let pieces = c.in_ok-pieces.pieces in
    let front = c.in_ok-front.front in
    let job = c.new-job.result.job in
    let first = c.new-job.result.first in
    let n = c.len-2.result in
    let of = subst (IsJobOf plan round pieces.items) (sym c.new-job.ensures.job)
    record { plan_is = c.new.ensures.plan; input_is = c.new.ensures.input; pieces_are = c.new.ensures.pieces ∙ c.as_slice.ensures.value } in
    let count : n ≡ length pieces.items = grind (arith, c.len-2.ensures, pieces.ok) in
    let weights = weights-counted plan job.plan.now round job.input.now pieces.items job.pieces.now n
    of.plan_is of.input_is of.pieces_are count c.job_law.ensures.refused c.in_ok-pieces.ensures.lines in
    let same = c.in_ok-front.ensures.groups.refused in
    let all = c.args.before.refused + length (refused_lines plan.fields round) in
    let limit = c.limit_of-limit.ensures in
    let under = under-of front job.plan.now first job.input.now job.pieces.now n _ all c.in_ok-outcome.outcome (omega (arith, weights, same)) c.in_ok-outcome.ensures.decided in
    let p = err_from_is_err_and c.from_residual-in_err-whole.result c.from_residual-in_err-whole.ensures.1 in
    rw (p.1, p.2) (inr (c.in_err-whole.ensures.fault all (under-same all _ _ c.in_ok-outcome.outcome (omega (arith, limit)) under)))

pub returns-clause-whole : goal.returns-clause-whole
returns-clause-whole g c =
    let plan = c.args.scan.now.plan.now in
    let round = c.args.round.now in
    let pieces = c.in_ok-pieces.pieces in
    let front = c.in_ok-front.front in
    let job = c.new-job.result.job in
    let first = c.new-job.result.first in
    let n = c.len-2.result in
    let of = subst (IsJobOf plan round pieces.items) (sym c.new-job.ensures.job)
    record { plan_is = c.new.ensures.plan; input_is = c.new.ensures.input; pieces_are = c.new.ensures.pieces ∙ c.as_slice.ensures.value } in
    let count : n ≡ length pieces.items = grind (arith, c.len-2.ensures, pieces.ok) in
    stands-behind c.args.before front plan job.plan.now first round job.input.now pieces.items job.pieces.now n _ c.in_ok-outcome.outcome c.in_ok-whole.whole
    of.plan_is c.new-job.ensures.first of.input_is of.pieces_are count c.in_ok-pieces.ensures.few c.job_law.ensures.whole_by c.in_ok-pieces.ensures.cut c.in_ok-front.ensures.stands
    c.in_ok-whole.ensures.whole c.in_ok-outcome.ensures.decided

pub returns-clause-limit : goal.returns-clause-limit
returns-clause-limit g c =
    let job = c.new-job.result.job in
    let r = refused-whole c.in_ok-front.front job.plan.now c.new-job.result.first job.input.now job.pieces.now c.len-2.result _ c.in_ok-outcome.outcome c.in_ok-whole.whole
    c.in_ok-whole.ensures.whole c.in_ok-outcome.ensures.decided in
    let few = r.1 in
    let limit = c.limit_of-limit.ensures in
    omega (arith, few, limit)

pub returns-clause-reported : goal.returns-clause-reported
returns-clause-reported g c =
    let job = c.new-job.result.job in
    let first = c.new-job.result.first in
    let pooled = c.in_ok-outcome.ensures in
    let r = refused-whole c.in_ok-front.front job.plan.now first job.input.now job.pieces.now c.len-2.result _ c.in_ok-outcome.outcome c.in_ok-whole.whole
    c.in_ok-whole.ensures.whole pooled.decided in
    let count = r.0 in
    let same = c.in_ok-front.ensures.groups.refused in
    let weights : ℕ → ℕ = λ i. (of_piece job.plan.now (piece_from first job.input.now job.pieces.now i)).refused in
    let dealt = ap (sum_below weights) pooled.deal.1 in
    grown-by (λ share. share.sum) c.in_ok-outcome.shares.items _ _ (omega (arith, count, same, dealt))
    (grown_within weights (λ share. share.sum) c.args.shares.items c.in_ok-outcome.hands.items c.in_ok-outcome.shares.items pooled.deal.0 pooled.reported c.args.before.refused c.requires.reported)

pub returns-clause-taken : goal.returns-clause-taken
returns-clause-taken g c =
    let pieces = c.in_ok-pieces.pieces in
    let pooled = c.in_ok-outcome.ensures in
    let count : c.len-2.result ≡ length pieces.items = grind (arith, c.len-2.ensures, pieces.ok) in
    let shares = c.args.shares.ok in
    let hands = pooled.reported.0 in
    let settled = subst (λ outcome. Settles outcome c.in_ok-outcome.hands.items) c.in_ok-whole.ensures.whole pooled.settled in
    record { cut = c.in_ok-pieces.ensures.cut; deal = (pooled.deal.0, omega (arith, hands, shares), pooled.deal.1 ∙ count); run = pooled.run; once = settled.1 }
