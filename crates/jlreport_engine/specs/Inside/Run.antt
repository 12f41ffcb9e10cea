-- What a result that was made says of the input that it stands for.
use Rattle.std.specs.Prelude.{◌≡◌, ◌<◌, ⊤, ℕ, List, Option, Some, IfSome, length}
use Rattle.semantics.specs.Columns.{Field}
use Rattle.semantics.specs.Lines.{lines}
use Rattle.semantics.specs.Records.{refused_lines, valid_records}
use Rattle.semantics.specs.declared.run_fault.RunFault.{RunFault}
use Rattle.semantics.specs.declared.run_fault.RunFault.TheVariants.{Reading, OutOfMemory, ThreadNotStarted, TooManyRefused, WritingReport, WritingRefused, WritingPart}
use Rattle.tables.specs.Partials.{StandsForInput}
use Rattle.tables.specs.States.{PartialState}
use Rattle.query_plan.specs.Planned.{PlannedQuery}

-- Bytes are read as an input is: they have as many lines, the same good records and the same
-- refused lines.
pub record AreReadAs (fields : List Field) (bytes input : List ℕ) : Type 0 where
  pub lines : length (lines bytes) ≡ length (lines input)
  pub valid : valid_records fields bytes ≡ valid_records fields input
  pub refused : refused_lines fields bytes ≡ refused_lines fields input

-- A result stands for bytes that are read as an input is.
pub record StandsForReading (plan : PlannedQuery) (partial : PartialState) (input : List ℕ) : Type 0 where
  pub bytes : List ℕ
  pub stands : StandsForInput plan partial bytes
  pub same : AreReadAs plan.fields bytes input

-- So it does for the input, where that is known.
abbrev pub StandsForKnown : PlannedQuery → Option (List ℕ) → PartialState → Type 0
StandsForKnown plan known partial = IfSome known (StandsForReading plan partial)

-- What a fault says of the input, where that is known, before anything is written: that more of its
-- lines are refused than the limit, where it says so; of a read, of memory and of a thread it says
-- nothing more.
abbrev pub StopsRun : RunFault → Option ℕ → List Field → Option (List ℕ) → Type 0
StopsRun Reading limit fields known = ⊤
StopsRun OutOfMemory limit fields known = ⊤
StopsRun ThreadNotStarted limit fields known = ⊤
StopsRun (TooManyRefused most) limit fields known =
    (limit ≡ Some most) × IfSome known (λ input. most < length (refused_lines fields input))
StopsRun WritingReport limit fields known = ⊥
StopsRun WritingRefused limit fields known = ⊥
StopsRun WritingPart limit fields known = ⊥
