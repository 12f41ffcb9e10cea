use Rattle.std.proofs.Common.{◌≡◌, ◌∙◌, ◌+◌, ◌<◌, ◌≤◌, ◌⊎◌, ◌^◌, true, All, IfErr, IfOk, List, ℕ, length, Ok, ap, refl, subst, sym, vec_len}
use Rattle.std.proofs.lemmas.Result.{err_from_is_err_and}
use Rattle.semantics.specs.Records.{refused_lines}
use Rattle.lines.specs.Rounds.{HasMoved, RoundsState}
use Rattle.jlreport_scan.specs.Gathered.{limit_number}
use Rattle.jlreport_scan.specs.Inside.Faults.{IsWant, Refuses}
use Rattle.jlreport_scan.specs.Faults.{Stops}
use Rattle.jlreport_scan.specs.Inside.Pieces.{StandsBehind}
use Rattle.jlreport_scan.proofs.Gathered.{front-before, handed-out, next-behind, no-more, round-stops, short-round}
use Rattle.jlreport_scan.proofs.rounds.work_ahead.Goals as goal

pub work_and_read_on-outcome-requires-clause-front : goal.work_and_read_on-outcome-requires-clause-front
work_and_read_on-outcome-requires-clause-front g c κs within =
    let ahead = c.args.ahead in
    let m = c.requires.ahead.1.more c.requires.found in
    front-before c.args.scan.now.plan.now c.requires.ahead.0 (limit_number c.args.scan.now.options.max_refused) m.0 ahead.rounds (Ok true) ahead.whole m.1 m.2 refl

pub work_and_read_on-outcome-requires-clause-short : goal.work_and_read_on-outcome-requires-clause-short
work_and_read_on-outcome-requires-clause-short g c κs within =
    let ahead = c.args.ahead in
    let m = c.requires.ahead.1.more c.requires.found in
    let short = short-round c.args.scan.now.plan.now c.requires.ahead.0 (limit_number c.args.scan.now.options.max_refused)
    m.0 ahead.rounds (Ok true) ahead.whole m.1 m.2 refl in
    subst (λ (bytes : List ℕ). ahead.whole.lines + length bytes < 2 ^ 63) (sym c.hand_out-round.ensures.round) short

pub returns-in_err-whole-clause-fault : goal.returns-in_err-whole-clause-fault
returns-in_err-whole-clause-fault g c = λ known is.
    let ahead = c.args.ahead in
    let m = is.more c.requires.found in
    let fields = c.args.scan.now.plan.now.fields in
    let most = c.args.scan.now.options.max_refused in
    let bytes = c.hand_out-round.result.bytes in
    let told = subst (λ w. IfErr w (λ fault. IsWant fault ⊎ Refuses fault most (ahead.whole.refused + length (refused_lines fields bytes)))) c.in_err-whole.was c.work_and_read_on-outcome.ensures.fault in
    let stops : Stops c.in_err-whole.field-0.0 most fields known =
    round-stops c.args.scan.now.plan.now known (limit_number most) most
    m.0 ahead.rounds (Ok true) ahead.whole ahead.whole.refused bytes c.in_err-whole.field-0.0
    m.1 m.2 refl refl c.hand_out-round.ensures.round told in
    let p = err_from_is_err_and c.from_residual.result c.from_residual.ensures.1 in
    rw (p.1, p.2) stops

pub returns-clause-ahead : goal.returns-clause-ahead
returns-clause-ahead g c = λ known is.
    let ahead = c.args.ahead in
    let m = is.more c.requires.found in
    let plan = c.args.scan.now.plan.now in
    let most = limit_number c.args.scan.now.options.max_refused in
    let rest = c.hand_out-round.new.self in
    let kept = c.work_and_read_on-outcome.result.rounds in
    let whole = c.in_ok-whole.field-0.whole in
    let worked = subst (λ w. IfOk w (λ r. StandsBehind plan ahead.whole c.hand_out-round.result.bytes r.whole)) c.in_ok-whole.was c.work_and_read_on-outcome.ensures.whole in
    let behind = subst (λ (bytes : List ℕ). StandsBehind plan ahead.whole bytes whole) c.hand_out-round.ensures.round worked in
    let few = subst (λ w. IfOk w (λ r. r.whole.refused ≤ most)) c.in_ok-whole.was c.work_and_read_on-outcome.ensures.limit in
    let after = next-behind plan known most m.0 ahead.rounds (Ok true) ahead.whole whole m.1 m.2 refl behind few in
    let left = handed-out plan known most ahead.rounds rest whole c.hand_out-round.ensures.rest after in
    let read = subst (λ found. HasMoved rest found kept) c.in_ok-found.was c.work_and_read_on-outcome.ensures.read in
    record {
      size = read.size ∙ ap (λ (r : RoundsState _). r.size) c.hand_out-round.ensures.rest ∙ is.size;
      spare = c.hand_out-round.ensures.size ∙ is.size;
      more = λ e. (rest, left, subst (λ b. HasMoved rest (Ok b) kept) e read);
      none = λ e. no-more plan known most rest kept _ whole left read (ap Ok e);
      within = few;
      hands = subst (λ w. IfOk w (λ r. vec_len r.shares ≡ vec_len ahead.shares)) c.in_ok-whole.was c.work_and_read_on-outcome.ensures.hands ∙ is.hands;
      reported = subst (λ w. IfOk w (λ r. All (λ share. share.sum ≤ r.whole.refused) r.shares.items)) c.in_ok-whole.was c.work_and_read_on-outcome.ensures.reported;
    }
