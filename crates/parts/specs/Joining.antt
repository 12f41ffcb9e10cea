-- What the result of all parts is.
use Rattle.std.specs.Prelude.{◌≡◌, ⊤, ℕ, List, map, Result, Ok, Err, IsOk}
use Rattle.query_plan.specs.Planned.{PlannedQuery}
use Rattle.lines.specs.Clip.{clip_lines}
use Rattle.semantics.specs.Columns.{Field}
use Rattle.semantics.specs.Lines.{lines}
use Rattle.semantics.specs.Syntax.{Query}
use Rattle.semantics.specs.declared.join_fault.JoinFault.{JoinFault}
use Rattle.semantics.specs.declared.join_fault.JoinFault.TheVariants.{Parts, Run}
use Rattle.semantics.specs.Parts.{ContentsForm, contents_over, concatenated}
use Rattle.tables.specs.Partials.{StandsForInput}
use Rattle.tables.specs.States.{PartialState}
use Rattle.parts.specs.declared.fault.PartsRefusal.{PartsRefusal}
use Rattle.parts.specs.declared.fault.PartsRefusal.TheVariants as refusal
use Rattle.parts.specs.Faults.{PartedFault, parted_of}
use Rattle.parts.specs.ReadingParts.{parts_at}

-- A result is that of these contents, one behind the other: whatever inputs they are the contents
-- of, it stands for these, one behind the other.
abbrev pub StandsForAll : PlannedQuery → List ContentsForm → PartialState → Type 0
StandsForAll plan all partial =
    (inputs : List (List ℕ)) → all ≡ map (contents_over plan.fields plan.query) inputs
    → StandsForInput plan partial (concatenated inputs)

-- A result is that of all parts that lines are read as.
pub record IsJoin (plan : PlannedQuery) (ls : List (List ℕ)) (partial : PartialState) : Type 0 where
  pub contents : List ContentsForm
  pub read : parts_at plan.fields plan.query ls ≡ Ok contents
  pub stands : StandsForAll plan contents partial

-- A call that reads lines answers the result of the parts that they are, or their first fault;
-- where a read failed, or without memory, nothing is known of them.
abbrev pub AnswersParts : PlannedQuery → List (List ℕ) → Result PartialState PartsRefusal → Type 0
AnswersParts plan ls (Ok partial) = IsJoin plan ls partial
AnswersParts plan ls (Err (refusal.Fault fault)) = parts_at plan.fields plan.query ls ≡ Err (parted_of fault)
AnswersParts plan ls (Err refusal.Reading) = ⊤
AnswersParts plan ls (Err refusal.OutOfMemory) = ⊤

-- What is answered is no fault of parts.
abbrev pub IsNoFault : {X : Type 0} → Result X PartsRefusal → Type 0
IsNoFault (Ok x) = ⊤
IsNoFault (Err (refusal.Fault fault)) = ⊥
IsNoFault (Err refusal.Reading) = ⊤
IsNoFault (Err refusal.OutOfMemory) = ⊤

-- ---- what a join says of a reading

-- Where a join is done, what was read is parts; a fault of the parts that it answers is their first
-- one; of another fault nothing is said.
abbrev pub IsReadAs : {X : Type 0} → Result X JoinFault → Result (List ContentsForm) PartedFault → Type 0
IsReadAs (Ok x) read = IsOk read
IsReadAs (Err (Parts fault)) read = read ≡ Err (parted_of fault)
IsReadAs (Err (Run fault)) read = ⊤

-- So it is of what is read of bytes.
abbrev pub IsReadOf : {X : Type 0} → List Field → Query → List ℕ → Result X JoinFault → Type 0
IsReadOf fields q bytes result = IsReadAs result (parts_at fields q (lines (clip_lines bytes)))
