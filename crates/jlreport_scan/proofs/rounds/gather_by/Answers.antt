use Rattle.std.proofs.Common.{◌≡◌, ◌∙◌, ◌+◌, ◌<◌, ◌^◌, ◌++◌, length, List, ℕ, Ok, ap, subst, sym, refl, arith, inr}
use Rattle.semantics.specs.Lines.{lines}
use Rattle.lines.specs.Rounds.{RoundsState}
use Rattle.tables.specs.Partials.{StandsFor, whole_piece}
use Rattle.tables.proofs.OnePiece.{rest-stands}
use Rattle.jlreport_scan.specs.Gathered.{limit_number}
use Rattle.jlreport_scan.specs.Inside.Faults.{Refuses}
use Rattle.jlreport_scan.specs.Faults.{Stops}
use Rattle.jlreport_scan.specs.declared.fault.GatherFault.{GatherFault}
use Rattle.jlreport_scan.proofs.Gathered.{behind-as_one, few-behind, gather-fault, next-behind, no-more, no-round, refused-behind, round-stops}
use Rattle.jlreport_scan.proofs.rounds.gather_by.Goals as goal

pub loop-whole-init : goal.loop-whole-init
loop-whole-init g c =
    let known = g.R.Read.remaining c.args.reader in
    let rounds = no-round c.args.plan.now known (limit_number c.args.options.max_refused) c.in_ok-rounds.rounds c.in_ok-whole.whole
    (ap (λ (r : RoundsState _). r.left) c.in_ok-rounds.ensures) (ap (λ (r : RoundsState _). r.given) c.in_ok-rounds.ensures) c.in_ok-whole.ensures in
    rounds

pub fold_behind-requires-clause-of_plan : goal.fold_behind-requires-clause-of_plan
fold_behind-requires-clause-of_plan g c = let s = c.loop-whole.invariant.stands in ∣ (s.pieces, s.stands) ∣₁

pub fold_behind-requires-clause-few : goal.fold_behind-requires-clause-few
fold_behind-requires-clause-few g c =
    let few = few-behind c.args.plan.now (g.R.Read.remaining c.args.reader) (limit_number c.args.options.max_refused)
    c.loop-whole.rounds c.advance.new.self _ c.loop-whole.whole c.loop-whole.invariant c.in_ok-advance.ensures (ap Ok c.if-branch.true) in
    subst (λ (bytes : List ℕ). c.loop-whole.whole.lines + length (lines bytes) < 2 ^ 63) (sym c.round-in-loop-whole.ensures) few

pub loop-whole-preserved : goal.loop-whole-preserved
loop-whole-preserved g c =
    let plan = c.args.plan.now in
    let sum = c.in_ok-whole-2.whole in
    let behind = behind-as_one plan c.loop-whole.whole sum c.advance.new.self.round (λ front given whole.
    subst (λ (bytes : List ℕ). StandsFor plan sum (whole_piece (front ++ bytes))) c.round-in-loop-whole.ensures
    (rest-stands plan c.loop-whole.whole sum c.round-in-loop-whole.result.now c.in_ok-whole-2.ensures.stands front given whole)) in
    let count = c.refused.ensures.refused in
    let within = c.in_ok-check_limit.ensures.within in
    let rounds = next-behind plan (g.R.Read.remaining c.args.reader) (limit_number c.args.options.max_refused)
    c.loop-whole.rounds c.advance.new.self _ c.loop-whole.whole sum c.loop-whole.invariant c.in_ok-advance.ensures (ap Ok c.if-branch.true) behind (omega (arith, count, within)) in
    rounds

pub returns-in_err-check_limit-clause-gather : goal.returns-in_err-check_limit-clause-gather
returns-in_err-check_limit-clause-gather g c =
    let plan = c.args.plan.now in
    let known = g.R.Read.remaining c.args.reader in
    let most = c.args.options.max_refused in
    let sum = c.in_ok-whole-2.whole in
    let fault = c.in_err-check_limit.field-0.0 in
    let behind = behind-as_one plan c.loop-whole.whole sum c.advance.new.self.round (λ front given whole.
    subst (λ (bytes : List ℕ). StandsFor plan sum (whole_piece (front ++ bytes))) c.round-in-loop-whole.ensures
    (rest-stands plan c.loop-whole.whole sum c.round-in-loop-whole.result.now c.in_ok-whole-2.ensures.stands front given whole)) in
    let count = refused-behind plan known (limit_number most) c.loop-whole.rounds c.advance.new.self _ c.loop-whole.whole sum c.loop-whole.invariant c.in_ok-advance.ensures (ap Ok c.if-branch.true) behind in
    let stops : Stops fault most plan.fields known =
    round-stops plan known (limit_number most) most c.loop-whole.rounds c.advance.new.self _ c.loop-whole.whole c.loop-whole.whole.refused c.advance.new.self.round fault
    c.loop-whole.invariant c.in_ok-advance.ensures (ap Ok c.if-branch.true) refl refl
    (inr (subst (λ (n : ℕ). Refuses fault most n) (c.refused.ensures.refused ∙ count) c.in_err-check_limit.ensures.over)) in
    gather-fault c.from_residual-in_err-check_limit.result most plan known (λ given. given ≡ fault) c.from_residual-in_err-check_limit.ensures.1
    (λ given e. subst (λ (f : GatherFault). Stops f most plan.fields known) (sym e) stops)

pub returns-clause-gather : goal.returns-clause-gather
returns-clause-gather g c =
    let plan = c.args.plan.now in
    let known = g.R.Read.remaining c.args.reader in
    record {
      is_whole = no-more plan known (limit_number c.args.options.max_refused) c.loop-whole.rounds c.advance.new.self _ c.loop-whole.whole c.loop-whole.invariant c.in_ok-advance.ensures (ap Ok c.if-branch.false);
      is_within = c.loop-whole.invariant.within;
      stops = tt;
    }
