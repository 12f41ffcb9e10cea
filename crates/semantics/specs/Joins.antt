-- What a run writes whose result is a part, and what a join of parts writes.
use Rattle.std.specs.Io.KnownBytes.{Appends, Keeps}
use Rattle.std.specs.List.{flat_map}
use Rattle.std.specs.Prelude.{◌≡◌, ◌≢◌, ◌<◌, ◌≤◌, ℕ, List, [], Option, Some, None, Result, Ok, Err, IfErr, IfSome, IsNone, IsSome, OnOk, length}
use Rattle.json.specs.Print.{quoted}
use Rattle.semantics.specs.Canonical.{canonical_text}
use Rattle.semantics.specs.Columns.{Field}
use Rattle.semantics.specs.Lines.{lines}
use Rattle.semantics.specs.Parts.{columns_text, concatenated, part_text}
use Rattle.semantics.specs.Records.{refused_lines}
use Rattle.semantics.specs.Run.{AppendsBeginning, IsAnswer, IsRun, IsWithin}
use Rattle.semantics.specs.Syntax.{Query}
use Rattle.semantics.specs.declared.join_fault.JoinFault.TheVariants.{Parts, Run}
use Rattle.semantics.specs.declared.join_fault.JoinFault.{JoinFault}
use Rattle.semantics.specs.declared.run_done.Done.{Done}
use Rattle.semantics.specs.declared.run_fault.RunFault.{RunFault}
use Rattle.semantics.specs.declared.run_fault.RunFault.TheVariants.{Reading, OutOfMemory, ThreadNotStarted, TooManyRefused, WritingReport, WritingRefused, WritingPart}
use Rattle.semantics.specs.Limits.{input_limit}

-- ---- to a part

-- What a fault leaves of the output that a part goes to. Nothing was written if a read failed,
-- memory or a thread was refused, or more lines are refused than the limit. If a write failed,
-- not more lines are refused than the limit, and a beginning of the part was written.
abbrev pub LeavesPart : RunFault → Option ℕ → List Field → Query → Option (List ℕ)
    → (out_old out_new : Option (List ℕ)) → Type 0
LeavesPart Reading limit fields q input out_old out_new = Keeps out_old out_new
LeavesPart OutOfMemory limit fields q input out_old out_new = Keeps out_old out_new
LeavesPart ThreadNotStarted limit fields q input out_old out_new = Keeps out_old out_new
LeavesPart (TooManyRefused most) limit fields q input out_old out_new =
    (limit ≡ Some most) × IfSome input (λ bytes. most < length (refused_lines fields bytes))
    × Keeps out_old out_new
LeavesPart WritingReport limit fields q input out_old out_new = ⊥
LeavesPart WritingRefused limit fields q input out_old out_new = ⊥
LeavesPart WritingPart limit fields q input out_old out_new =
    IfSome input (λ bytes. IsWithin limit (length (refused_lines fields bytes))
    × AppendsBeginning out_old out_new (part_text fields q bytes))

-- What a run to a part answers and writes. It is done: the part of its input was written. Or it
-- answers a fault, which leaves of the output what it says.
pub record IsPartialRun (result : Result Done RunFault) (limit : Option ℕ) (fields : List Field)
    (q : Query) (input out_old out_new : Option (List ℕ)) : Type 0 where
  pub writes_part :
      OnOk result (IfSome input (λ bytes. Appends out_old out_new (part_text fields q bytes)))
  pub answers : IsAnswer result limit fields input
  pub leaves : IfErr result (λ fault. LeavesPart fault limit fields q input out_old out_new)

-- ---- of parts

-- The bytes that are given are the parts of these inputs, one after the other.
abbrev pub ArePartsOf : List Field → Query → List (List ℕ) → Option (List ℕ) → Type 0
ArePartsOf fields q inputs given = given ≡ Some (flat_map (part_text fields q) inputs)

-- Inputs whose parts every join takes: there is one at least, together they have fewer than 2^63
-- lines, and the columns and the query are no longer than this, each as a string of JSON, in
-- bytes.
pub record CanBeJoined (fields : List Field) (q : Query) (inputs : List (List ℕ)) : Type 0 where
  pub some : inputs ≢ []
  pub few : length (lines (concatenated inputs)) < input_limit
  pub columns : length (quoted (columns_text fields)) ≤ 1000000
  pub query : length (quoted (canonical_text q)) ≤ 1000000

-- What a join answers as a run does. A fault of the parts is no answer of a run.
abbrev pub run_answer : Result Done JoinFault → Option (Result Done RunFault)
run_answer (Ok done) = Some (Ok done)
run_answer (Err (Run fault)) = Some (Err fault)
run_answer (Err (Parts fault)) = None

-- What a join of parts answers and writes. If the parts of some inputs are given, it answers and
-- writes what a run over these inputs, one after the other, may, or it answers a fault of the
-- parts (is_run); that it never does if the parts can be joined (takes). Whatever is given, what
-- it answers and leaves is what a run may answer and leave (is_some_run). After a fault of the
-- parts nothing was written (keeps).
pub record IsJoin (result : Result Done JoinFault) (limit : Option ℕ) (fields : List Field)
    (q : Query) (given out_old out_new err_old err_new : Option (List ℕ)) : Type 0 where
  pub is_run : (inputs : List (List ℕ)) → ArePartsOf fields q inputs given
      → IfSome (run_answer result) (λ answer.
      IsRun answer limit fields q (Some (concatenated inputs)) out_old out_new err_old err_new)
  pub takes : (inputs : List (List ℕ)) → ArePartsOf fields q inputs given
      → CanBeJoined fields q inputs
      → IsSome (run_answer result)
  pub is_some_run :
      IfSome (run_answer result)
      (λ answer. IsRun answer limit fields q None out_old out_new err_old err_new)
  pub keeps : IsNone (run_answer result) → Keeps out_old out_new × Keeps err_old err_new

-- So does a join of parts to one part.
pub record IsPartialJoin (result : Result Done JoinFault) (limit : Option ℕ) (fields : List Field)
    (q : Query) (given out_old out_new : Option (List ℕ)) : Type 0 where
  pub is_run : (inputs : List (List ℕ)) → ArePartsOf fields q inputs given
      → IfSome (run_answer result) (λ answer.
      IsPartialRun answer limit fields q (Some (concatenated inputs)) out_old out_new)
  pub takes : (inputs : List (List ℕ)) → ArePartsOf fields q inputs given
      → CanBeJoined fields q inputs
      → IsSome (run_answer result)
  pub is_some_run :
      IfSome (run_answer result) (λ answer. IsPartialRun answer limit fields q None out_old out_new)
  pub keeps : IsNone (run_answer result) → Keeps out_old out_new
