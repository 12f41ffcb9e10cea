use Rattle.std.proofs.Common.{◌∙◌, Ok, ap, subst, arith}
use Rattle.lines.specs.Rounds.{HasMoved, RoundState, RoundsState}
use Rattle.jlreport_scan.specs.Gathered.{limit_number}
use Rattle.jlreport_scan.proofs.Gathered.{no-more, no-round}
use Rattle.jlreport_scan.proofs.Pooled.{grown-by}
use Rattle.jlreport_scan.proofs.rounds.first_ahead.Goals as goal

pub returns-clause-ahead : goal.returns-clause-ahead
returns-clause-ahead g c =
    let plan = c.args.scan.now.plan.now in
    let known = g.R.Read.remaining c.args.reader in
    let limit = limit_number c.args.scan.now.options.max_refused in
    let first = c.in_ok-rounds.rounds in
    let before = no-round plan known limit first c.in_ok-whole.whole
    (ap (λ (r : RoundsState _). r.left) c.in_ok-rounds.ensures) (ap (λ (r : RoundsState _). r.given) c.in_ok-rounds.ensures) c.in_ok-whole.ensures in
    let moved = c.in_ok-found.ensures in
    record {
      size = moved.size ∙ ap (λ (r : RoundsState _). r.size) c.in_ok-rounds.ensures ∙ c.round.ensures.value;
      spare = ap (λ (r : RoundState). r.size) c.in_ok-spare.ensures ∙ c.round-2.ensures.value;
      more = λ e. (first, before, subst (λ b. HasMoved first (Ok b) c.advance.new.self) e moved);
      none = λ e. no-more plan known limit first c.advance.new.self _ c.in_ok-whole.whole before moved (ap Ok e);
      within = before.within;
      hands = c.requires.hands;
      reported = grown-by (λ share. share.sum) c.args.shares.items 0 _ (omega arith) c.requires.none;
    }
