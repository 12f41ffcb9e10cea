use Rattle.std.proofs.Common.{◌<◌, ◌≤◌, ◌-◌, Ok}
use Rattle.lines.specs.Inside.Input.{ComesNear, GoesOn, HasAccount}
use Rattle.lines.specs.Clip.{clipped_len}
use Rattle.lines.proofs.input.Input.fill_for.Given as goal

-- what `fill` ensures for the bytes that the whole lines were to come near to last
abbrev pub invariant-loop-ended : goal.invariant-loop-ended
invariant-loop-ended g l = record {
  account : HasAccount g.R.Read.remaining l.fn.self (Ok l.near) l.self;
  goes_on : GoesOn g.R.Read.remaining l.fn.self l.self;
  near : ComesNear g.R.Read.remaining l.near l.ended l.self;
  within : l.near ≤ l.aim;
  long : clipped_len < l.aim → clipped_len < l.near;
}

-- each turn comes nearer to the aim
abbrev pub decreases-loop-ended : goal.decreases-loop-ended
decreases-loop-ended g l = l.aim - l.near
