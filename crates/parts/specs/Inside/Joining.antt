-- What the result of all parts is.
use Rattle.std.specs.Prelude.{◌≡◌, ◌≤◌, ◌++◌, ⊤, ℕ, List, length, Result, Ok, Err}
use Rattle.part_lines.specs.Reading.{Stream}
use Rattle.query_plan.specs.Planned.{PlannedQuery}
use Rattle.semantics.specs.Columns.{Field}
use Rattle.semantics.specs.Lines.{lines}
use Rattle.semantics.specs.Syntax.{Query}
use Rattle.semantics.specs.Parts.{ContentsForm}
use Rattle.tables.specs.States.{PartialState}
use Rattle.parts.specs.declared.fault.PartsRefusal.{PartsRefusal}
use Rattle.parts.specs.declared.fault.PartsRefusal.TheVariants as refusal
use Rattle.parts.specs.Faults.{PartedFault, parted_of}
use Rattle.parts.specs.ReadingParts.{parts_from}
use Rattle.parts.specs.Joining.{StandsForAll}

-- What the parts are read as that are numbered from `part` on and stand behind parts of so many
-- lines, if there may be as many of them as there are lines.
abbrev pub ArePartsFrom : List Field → Query → (part before : ℕ) → Stream → Result (List ContentsForm) PartedFault → Type 0
ArePartsFrom fields q part before s answer = (most : ℕ) → length s.left ≤ most → parts_from fields q most part before s ≡ answer

-- Behind parts whose result is this one, a call joins those that are numbered from `part` on: it
-- answers the result of all, or the first fault of these.
abbrev pub JoinsBehind : PlannedQuery → PartialState → ℕ → Stream → Result PartialState PartsRefusal → Type 0
JoinsBehind plan first part s (Ok whole) =
    (more : List ContentsForm) × ArePartsFrom plan.fields plan.query part first.lines s (Ok more)
    × ((all : List ContentsForm) → StandsForAll plan all first → StandsForAll plan (all ++ more) whole)
JoinsBehind plan first part s (Err (refusal.Fault fault)) = ArePartsFrom plan.fields plan.query part first.lines s (Err (parted_of fault))
JoinsBehind plan first part s (Err refusal.Reading) = ⊤
JoinsBehind plan first part s (Err refusal.OutOfMemory) = ⊤
