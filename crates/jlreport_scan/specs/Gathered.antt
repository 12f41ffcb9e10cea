-- The result of a query over all that a reader gives.
use Rattle.std.specs.Prelude.{◌≡◌, ◌≤◌, ℕ, List, Option, IfErr, IfOk, IfSome, Result, unwrap_or}
use Rattle.lines.specs.Clip.{clip_lines}
use Rattle.tables.specs.Partials.{StandsForInput}
use Rattle.tables.specs.States.{PartialState}
use Rattle.jlreport_scan.specs.declared.fault.GatherFault.{GatherFault}
use Rattle.jlreport_scan.specs.Faults.{Stops}
use Rattle.query_plan.specs.Planned.{PlannedQuery}

-- The partial result stands for all that a reader gives: for bytes which, where it is known what
-- the reader gives, are that, clipped
pub record IsWhole (plan : PlannedQuery) (known : Option (List ℕ)) (partial : PartialState) : Type 0 where
  pub bytes : List ℕ
  pub stands : StandsForInput plan partial bytes
  pub clipped : IfSome known (λ input. bytes ≡ clip_lines input)

-- Where there is no limit, the greatest number of 64 bits stands for it.
abbrev pub limit_number : Option ℕ → ℕ
limit_number limit = unwrap_or limit 18446744073709551615

-- What gathering a result answers: one that stands for all that a reader gives, of which not more
-- lines are refused than the limit; or a fault, which says of the input what it says.
pub record IsGather (result : Result PartialState GatherFault) (limit : Option ℕ) (plan : PlannedQuery) (known : Option (List ℕ)) : Type 0 where
  pub is_whole : IfOk result (IsWhole plan known)
  pub is_within : IfOk result (λ partial. partial.refused ≤ limit_number limit)
  pub stops : IfErr result (λ fault. Stops fault limit plan.fields known)
