use Rattle.std.proofs.Common.{◌≤◌, ◌+◌, ◌-◌, ◌*◌, cond}
use Rattle.lines.specs.Inside.Holding.{KeepsLeft}
use Rattle.lines.proofs.line_buffer.LineBuffer.scan_lines.Given as goal

-- what is left stays the same
abbrev pub invariant-loop-self : goal.invariant-loop-self
invariant-loop-self l = record {
  left : KeepsLeft l.fn.self l.self;
  within : l.self.cut ≤ l.aim;
}

-- fewer bytes are open, or a line is known to be too long
abbrev pub decreases-loop-self : goal.decreases-loop-self
decreases-loop-self l = 2 * (l.self.filled - l.self.cut) + cond l.self.full 0 1
