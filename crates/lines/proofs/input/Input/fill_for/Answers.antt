use Rattle.std.proofs.Common.{◌≡◌, ◌<◌, ◌+◌, ℕ, min, rules, arith}
use Rattle.lines.specs.Clip.{clipped_len}
use Rattle.lines.proofs.Account.{HasAccount-trans, not-ok}
use Rattle.lines.proofs.Leaving.{GoesOn-trans}
use Rattle.lines.proofs.input.Input.fill_for.Goals as goal

stays-long : (near far next aim : ℕ) → far ≡ min (near + 1048576) 18446744073709551615 → next ≡ min aim far → clipped_len < near → clipped_len < aim → clipped_len < next
stays-long near far next aim e d h l = omega arith

-- of the next fill `fill` says all but that it is not beyond the aim, and no less near than before
pub loop-ended-preserved : goal.loop-ended-preserved
loop-ended-preserved g c =
    let first = c.args.self.now in
    let was = c.loop-ended in
    let next = c.fill-in-loop-ended.new.self in
    let rest = g.R.Read.remaining in
    let filled = c.in_ok-ended-2.ensures in
    record {
      account = HasAccount-trans rest first was.self next was.near _ _ (λ h. search rules) (λ h. search rules) was.invariant.account filled.account;
      goes_on = GoesOn-trans rest first was.self next was.invariant.goes_on filled.goes_on;
      near = filled.near;
      within = omega (arith, c.min-near-in-loop-ended.ensures);
      long = λ h. stays-long _ _ _ _ c.saturating_add.ensures c.min-near-in-loop-ended.ensures (was.invariant.long h) h;
    }

-- where the second fill fails, bytes were read by both
pub returns-in_err-ended-2-clause-account : goal.returns-in_err-ended-2-clause-account
returns-in_err-ended-2-clause-account g c =
    HasAccount-trans g.R.Read.remaining c.args.self.now c.loop-ended.self c.fill-in-loop-ended.new.self c.loop-ended.near _ _ (λ _. search rules) (not-ok _ _ c.from_residual-in_err-ended-2.ensures.1) c.loop-ended.invariant.account c.in_err-ended-2.ensures.account
