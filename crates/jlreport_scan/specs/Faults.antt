-- How the gathering of a result ends without one.
use Rattle.std.specs.Prelude.{◌≡◌, ◌<◌, ⊤, ℕ, List, Option, Some, IfSome, length}
use Rattle.semantics.specs.Columns.{Field}
use Rattle.semantics.specs.Records.{refused_lines}
use Rattle.pool.specs.declared.laws.PoolFault.{PoolFault}
use Rattle.pool.specs.declared.laws.PoolFault.TheVariants as pool
use Rattle.jlreport_scan.specs.declared.fault.GatherFault.{GatherFault}
use Rattle.jlreport_scan.specs.declared.fault.GatherFault.TheVariants.{Reading, OutOfMemory, ThreadNotStarted, TooManyRefused}

-- What a fault says of the input of which the reader gave what it is known to give: that more of
-- its lines are refused than the limit, where it says so; of a read, of memory and of a thread it
-- says nothing more.
abbrev pub Stops : GatherFault → Option ℕ → List Field → Option (List ℕ) → Type 0
Stops Reading limit fields input = ⊤
Stops OutOfMemory limit fields input = ⊤
Stops ThreadNotStarted limit fields input = ⊤
Stops (TooManyRefused most) limit fields input = (limit ≡ Some most) × IfSome input (λ bytes. most < length (refused_lines fields bytes))

-- The fault that a pool's fault is.
abbrev pub fault_of_pool : PoolFault → GatherFault
fault_of_pool pool.OutOfMemory = OutOfMemory
fault_of_pool pool.ThreadNotStarted = ThreadNotStarted
