-- How the gathering of a result ends without one.
use Rattle.std.specs.Prelude.{◌≡◌, ◌⊎◌, ◌<◌, ℕ, Option, Some}
use Rattle.jlreport_scan.specs.declared.fault.GatherFault.{GatherFault}
use Rattle.jlreport_scan.specs.declared.fault.GatherFault.TheVariants.{OutOfMemory, ThreadNotStarted, TooManyRefused}

-- Memory or a thread was refused.
abbrev pub IsWant : GatherFault → Type 0
IsWant fault = (fault ≡ OutOfMemory) ⊎ (fault ≡ ThreadNotStarted)

-- The fault says that more lines are refused than the limit.
abbrev pub Refuses : GatherFault → Option ℕ → ℕ → Type 0
Refuses (TooManyRefused most) limit count = (limit ≡ Some most) × (most < count)
Refuses fault limit count = ⊥
