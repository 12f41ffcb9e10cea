-- What a run writes, and what it leaves where it fails.
use Rattle.std.specs.Io.KnownBytes.{Appends, Keeps}
use Rattle.std.specs.List.{flat_map}
use Rattle.std.specs.Prelude.{◌≡◌, ◌++◌, ℕ, List, Option, ◌<◌, ◌≤◌, ◌↔◌, ⊤, Some, Result, IfErr, IfOk, IfSome, IsOk, OnOk, length}
use Rattle.semantics.specs.Columns.{Field}
use Rattle.semantics.specs.ResultRows.{rows_before_having}
use Rattle.semantics.specs.Lines.{lines}
use Rattle.semantics.specs.Order.{report_values}
use Rattle.semantics.specs.Records.{valid_records, refused_lines}
use Rattle.semantics.specs.Syntax.{Query}
use Rattle.semantics.specs.Texts.{refused_line, report_bytes}
use Rattle.semantics.specs.declared.run_done.Done.{Done}
use Rattle.semantics.specs.declared.run_fault.RunFault.{RunFault}
use Rattle.semantics.specs.declared.run_fault.RunFault.TheVariants.{Reading, OutOfMemory, ThreadNotStarted, TooManyRefused, WritingReport, WritingRefused, WritingPart}

-- What a reader gives and what a writer holds is an Option: None if no contract tells their
-- bytes, as of a file. Then nothing is said of them. Here the known bytes grew by a beginning of
-- the text, which may be none or all of it.
abbrev pub AppendsBeginning : Option (List ℕ) → Option (List ℕ) → List ℕ → Type 0
AppendsBeginning old new text =
    (front : List ℕ) × (rest : List ℕ) × (text ≡ front ++ rest) × Appends old new front

-- The report of a query on an input: what the query finds in the valid records of all lines.
abbrev pub report : List Field → Query → List ℕ → List ℕ
report fields q input =
    report_bytes q.items
    (report_values fields q (rows_before_having fields q (valid_records fields input)))

-- The list of the refused lines of an input.
abbrev pub refusals : List Field → List ℕ → List ℕ
refusals fields input = flat_map (refused_line fields) (refused_lines fields input)

-- Not more than the limit, if there is one.
abbrev pub IsWithin : Option ℕ → ℕ → Type 0
IsWithin limit count = IfSome limit (λ most. count ≤ most)

-- A fault by which something was refused to the run: a read, memory, a thread or a write.
abbrev pub IsResourceFault : RunFault → Type 0
IsResourceFault (TooManyRefused most) = ⊥
IsResourceFault fault = ⊤

-- What a fault says, and what it leaves of the two outputs. Nothing was written if a read
-- failed, memory or a thread was refused, or more lines are refused than the limit. If a write
-- failed, not more lines are refused than the limit: a beginning of the report was written and
-- nothing of the list, or the report and a beginning of the list. No part is written.
abbrev pub Leaves :
    RunFault → Option ℕ → List Field → Query → Option (List ℕ)
    → (out_old out_new err_old err_new : Option (List ℕ)) → Type 0
Leaves Reading limit fields q input out_old out_new err_old err_new =
    Keeps out_old out_new × Keeps err_old err_new
Leaves OutOfMemory limit fields q input out_old out_new err_old err_new =
    Keeps out_old out_new × Keeps err_old err_new
Leaves ThreadNotStarted limit fields q input out_old out_new err_old err_new =
    Keeps out_old out_new × Keeps err_old err_new
Leaves (TooManyRefused most) limit fields q input out_old out_new err_old err_new =
    (limit ≡ Some most) × IfSome input (λ bytes. most < length (refused_lines fields bytes))
    × Keeps out_old out_new × Keeps err_old err_new
Leaves WritingReport limit fields q input out_old out_new err_old err_new =
    IfSome input (λ bytes. IsWithin limit (length (refused_lines fields bytes))
    × AppendsBeginning out_old out_new (report fields q bytes))
    × Keeps err_old err_new
Leaves WritingRefused limit fields q input out_old out_new err_old err_new =
    IfSome input (λ bytes. IsWithin limit (length (refused_lines fields bytes))
    × Appends out_old out_new (report fields q bytes)
    × AppendsBeginning err_old err_new (refusals fields bytes))
Leaves WritingPart limit fields q input out_old out_new err_old err_new = ⊥

-- What a run answers of its input. If it is done, it answers the numbers of lines and of refused
-- lines, and the refused lines are within the limit. Unless its answer is that something was
-- refused to it, it is done exactly if the refused lines are within the limit; this follows from
-- the other clauses of IsRun.
pub record IsAnswer (result : Result Done RunFault) (limit : Option ℕ) (fields : List Field)
    (input : Option (List ℕ)) : Type 0 where
  pub counts_lines : IfOk result (λ done. IfSome input (λ bytes. done.lines ≡ length (lines bytes)))
  pub counts_refused :
      IfOk result (λ done.
      IfSome input (λ bytes. done.refused ≡ length (refused_lines fields bytes)))
  pub is_within : IfOk result (λ done. IsWithin limit done.refused)
  pub is_decided : IfErr result (λ fault. IsResourceFault fault → ⊥)
      → IfSome input (λ bytes. IsOk result ↔ IsWithin limit (length (refused_lines fields bytes)))

-- What a run answers and writes. It is done: the report and the list of the refused lines were
-- written. Or it answers a fault, which leaves of the outputs what it says.
pub record IsRun (result : Result Done RunFault) (limit : Option ℕ) (fields : List Field)
    (q : Query) (input out_old out_new err_old err_new : Option (List ℕ)) : Type 0 where
  pub writes_report :
      OnOk result (IfSome input (λ bytes. Appends out_old out_new (report fields q bytes)))
  pub writes_refusals :
      OnOk result (IfSome input (λ bytes. Appends err_old err_new (refusals fields bytes)))
  pub answers : IsAnswer result limit fields input
  pub leaves :
      IfErr result (λ fault. Leaves fault limit fields q input out_old out_new err_old err_new)
