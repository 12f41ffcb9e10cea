-- What a failed write leaves.
use Rattle.std.specs.Prelude.{◌≡◌, ◌<◌, ◌≤◌, ◌++◌, ℕ, List, Option}
use Rattle.std.specs.Global.{Vec}
use Rattle.std.specs.Vec.{vec_capacity}
use Rattle.std.specs.Io.KnownBytes.{Appends, Keeps}
use Rattle.report.specs.Report.{line_room}
use Rattle.semantics.specs.Columns.{Field}
use Rattle.semantics.specs.declared.run_fault.RunFault.{RunFault}
use Rattle.semantics.specs.declared.run_fault.RunFault.TheVariants.{WritingReport, WritingRefused}
use Rattle.semantics.specs.Run.{AppendsBeginning}

-- What a fault leaves where a report was to be written to one writer, and then a list of refused
-- lines to another: a beginning of the report and nothing of the list, or the report and a
-- beginning of the list.
abbrev pub LeavesWritten :
    RunFault → List ℕ → List ℕ → (out_old out_new err_old err_new : Option (List ℕ)) → Type 0
LeavesWritten WritingReport report list out_old out_new err_old err_new =
    AppendsBeginning out_old out_new report × Keeps err_old err_new
LeavesWritten WritingRefused report list out_old out_new err_old err_new =
    Appends out_old out_new report × AppendsBeginning err_old err_new list
LeavesWritten fault report list out_old out_new err_old err_new = ⊥

-- ---- what waits in a buffer

-- The first of the bytes that waited were written, and the others wait.
abbrev pub Sends : (old new : Option (List ℕ)) → (waited waits : List ℕ) → Type 0
Sends old new waited waits = (front : List ℕ) × (waited ≡ front ++ waits) × Appends old new front

-- a buffer has room for any one line of a list of so many refused lines; there is none where the
-- list has no line
abbrev pub HasRoomFor : List Field → ℕ → Vec ℕ → Type 0
HasRoomFor fields lines buffer = 0 < lines → line_room fields ≤ vec_capacity buffer
