use Rattle.std.proofs.Common.{Ok, rules, ◌∙◌}
use Rattle.lines.specs.Inside.Input.{HasAccount}
use Rattle.lines.proofs.Account.{HasAccount-trans, not-ok}
use Rattle.lines.proofs.Leaving.{GoesOn-scanned, GoesOn-trans}
use Rattle.lines.proofs.input.Input.fill.Goals as goal

-- the read that failed is behind those before it
pub returns-in_err-read_more-clause-account : goal.returns-in_err-read_more-clause-account
returns-in_err-read_more-clause-account g c =
    HasAccount-trans g.R.Read.remaining c.args.self.now c.loop-self.self c.read_more.new.self c.args.aim _ _ (λ _. search rules) (not-ok _ _ c.from_residual.ensures.1) c.loop-self.invariant.account c.in_err-read_more.ensures.account

pub returns-then-branch-eq0-clause-account : goal.returns-then-branch-eq0-clause-account
returns-then-branch-eq0-clause-account g c =
    HasAccount-trans g.R.Read.remaining c.args.self.now c.loop-self.self c.read_more.new.self c.args.aim _ _ (λ h. search rules) (λ h. search rules) c.loop-self.invariant.account c.in_ok-read_more.ensures.account

pub loop-self-preserved : goal.loop-self-preserved
loop-self-preserved g c =
    let first = c.args.self.now in
    let was = c.loop-self in
    let next = c.read_more.new.self in
    let rest = g.R.Read.remaining in
    let did = c.in_ok-read_more.ensures in
    let scanned = c.scan_lines-in-loop-self.ensures in
    let account : HasAccount rest first (Ok c.args.aim) next = HasAccount-trans rest first was.self next c.args.aim _ _ (λ h. search rules) (λ h. search rules) was.invariant.account did.account in
    record {
      account = record { size = scanned.left.size ∙ account.size; read = account.read; cause = account.cause; told = account.told };
      goes_on = GoesOn-scanned rest first next c.scan_lines-in-loop-self.new.self scanned.left (GoesOn-trans rest first was.self next was.invariant.goes_on did.goes_on);
      within = scanned.within;
      short = scanned.short;
    }
