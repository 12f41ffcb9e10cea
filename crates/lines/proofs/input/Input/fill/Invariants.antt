use Rattle.std.proofs.Common.{◌<◌, ◌≤◌, ◌+◌, ◌-◌, Ok}
use Rattle.lines.specs.Inside.Input.{GoesOn, HasAccount}
use Rattle.lines.specs.Clip.{clipped_len}
use Rattle.lines.proofs.input.Input.fill.Given as goal

-- what is left stays the same, and what is held comes from the bytes that were counted
abbrev pub invariant-loop-self : goal.invariant-loop-self
invariant-loop-self g l = record {
  account : HasAccount g.R.Read.remaining l.fn.self (Ok l.aim) l.self;
  goes_on : GoesOn g.R.Read.remaining l.fn.self l.self;
  within : l.self.held.cut ≤ l.aim;
  short : l.self.held.cut + clipped_len < l.aim → l.self.held.filled ≤ l.self.held.cut + clipped_len;
}

-- each read that goes on adds to the bytes that were counted
abbrev pub decreases-loop-self : goal.decreases-loop-self
decreases-loop-self g l = 9223372036854775808 - l.self.source.taken
