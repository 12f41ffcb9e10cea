-- What the reading of parts for a join answers.
use Rattle.std.specs.Prelude.{◌≡◌, ◌≢◌, ◌<◌, ℕ, List, Option, Some, None, Result, IfErr, IfOk, IfSome}
use Rattle.lines.specs.Clip.{clip_lines}
use Rattle.parts.specs.Joining.{IsReadAs}
use Rattle.parts.specs.ReadingParts.{parts_at}
use Rattle.parts.specs.declared.fault.PartsRefusal.{PartsRefusal}
use Rattle.parts.specs.declared.fault.PartsRefusal.TheVariants as refusal
use Rattle.query_plan.specs.Planned.{PlannedQuery}
use Rattle.semantics.specs.Joins.{ArePartsOf, CanBeJoined}
use Rattle.semantics.specs.Lines.{lines}
use Rattle.semantics.specs.Parts.{concatenated}
use Rattle.semantics.specs.Run.{IsWithin}
use Rattle.semantics.specs.declared.join_fault.JoinFault.{JoinFault}
use Rattle.semantics.specs.declared.join_fault.JoinFault.TheVariants.{Parts, Run}
use Rattle.semantics.specs.declared.run_fault.RunFault.{RunFault}
use Rattle.semantics.specs.declared.run_fault.RunFault.TheVariants.{Reading, OutOfMemory, ThreadNotStarted, TooManyRefused}
use Rattle.tables.specs.Partials.{StandsForInput}
use Rattle.tables.specs.Sound.{IsSoundUnder}
use Rattle.tables.specs.States.{PartialState}
use Rattle.jlreport_engine.specs.Inside.Run.{StopsRun}

-- The fault of a join that a refusal of parts is.
abbrev pub fault_of_parts : PartsRefusal → JoinFault
fault_of_parts (refusal.Fault fault) = Parts fault
fault_of_parts refusal.Reading = Run Reading
fault_of_parts refusal.OutOfMemory = Run OutOfMemory

-- The fault says that so many refused lines are more than the limit.
abbrev pub IsOver : Option ℕ → ℕ → RunFault → Type 0
IsOver limit count (TooManyRefused most) = (limit ≡ Some most) × (most < count)
IsOver limit count fault = ⊥

-- Before anything is written a join fails by a fault of the parts, where no parts that can be
-- joined were given, or as a run may over the inputs whose parts were given, one behind the other,
-- and over some input.
abbrev pub StopsJoin : JoinFault → Option ℕ → PlannedQuery → Option (List ℕ) → Type 0
StopsJoin (Parts fault) limit plan given =
    (inputs : List (List ℕ)) → ArePartsOf plan.fields plan.query inputs given → ¬ CanBeJoined plan.fields plan.query inputs
StopsJoin (Run fault) limit plan given =
    StopsRun fault limit plan.fields None
    × ((inputs : List (List ℕ)) → ArePartsOf plan.fields plan.query inputs given → StopsRun fault limit plan.fields (Some (concatenated inputs)))

-- What was read is joined: the result is one that the plan can finish, not more of its lines are
-- refused than the limit, and it stands for the inputs whose parts were given, one behind the
-- other. Or there is a fault, which is none of a thread.
pub record IsJoined (result : Result PartialState JoinFault) (limit : Option ℕ) (plan : PlannedQuery) (given : Option (List ℕ)) : Type 0 where
  pub sound : IfOk result (IsSoundUnder plan)
  pub within : IfOk result (λ partial. IsWithin limit partial.refused)
  pub stands : IfOk result (λ partial. (inputs : List (List ℕ)) → ArePartsOf plan.fields plan.query inputs given
      → StandsForInput plan partial (concatenated inputs))
  pub stops : IfErr result (λ fault. StopsJoin fault limit plan given)
  pub started : IfErr result (λ fault. fault ≢ Run ThreadNotStarted)
  pub reads : IfSome given (λ bytes. IsReadAs result (parts_at plan.fields plan.query (lines (clip_lines bytes))))
