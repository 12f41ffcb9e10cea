-- What the program does once its words are read, and the status that it ends with.
use Rattle.std.specs.Borrow.{Bor}
use Rattle.std.specs.Fn.{CalledAt, Mut}
use Rattle.std.specs.Io.KnownBytes.{Appends, Keeps}
use Rattle.std.specs.Prelude.{◌≡◌, ◌≢◌, ◌⊎◌, ◌==◌, ℕ, Bool, true, false, List, Option, Some, None, Result, Ok, Err, slice_get, if◌then◌else◌}
use Rattle.clap.specs.Values.{kind_of}
use Rattle.clap.specs.declared.error.Error.{Error}
use Rattle.clap.specs.declared.error.kind.ErrorKind.{ErrorKind}
use Rattle.clap.specs.declared.error.kind.ErrorKind.TheVariants as kinds
use Rattle.semantics.specs.Columns.{Field, schema_of}
use Rattle.semantics.specs.Explanation.{IsAnswerable, explanation}
use Rattle.semantics.specs.Faults.{query_faults}
use Rattle.semantics.specs.Joins.{IsJoin, IsPartialJoin, IsPartialRun}
use Rattle.semantics.specs.Reading.{Derives, IsRefusalOf}
use Rattle.semantics.specs.Run.{AppendsBeginning, IsRun}
use Rattle.semantics.specs.Syntax.{Query}
use Rattle.semantics.specs.declared.ending.Ending.{Ending}
use Rattle.semantics.specs.declared.ending.Ending.TheVariants as ending
use Rattle.semantics.specs.declared.join_fault.JoinFault.{JoinFault}
use Rattle.semantics.specs.declared.join_fault.JoinFault.TheVariants as join_faults
use Rattle.semantics.specs.declared.query_fault.QueryFault.{QueryFault}
use Rattle.semantics.specs.declared.query_fault.QueryFault.TheVariants as text_faults
use Rattle.semantics.specs.declared.run_done.Done.{Done}
use Rattle.semantics.specs.declared.run_fault.RunFault.{RunFault}
use Rattle.semantics.specs.declared.run_fault.RunFault.TheVariants as run_faults
use Rattle.semantics.specs.declared.schema_fault.SchemaFault.{SchemaFault}
use Rattle.semantics.specs.declared.schema_fault.SchemaFault.TheVariants as schema_faults
use Rattle.semantics.specs.declared.words_fault.WordsFault.{WordsFault}
use Rattle.semantics.specs.declared.words_fault.WordsFault.TheVariants as words_faults

-- ---- statuses

-- The status if the columns are refused.
abbrev pub schema_status : SchemaFault → ℕ
schema_status schema_faults.OutOfMemory = 4
schema_status fault = 2

-- The status if the query is refused.
abbrev pub query_status : QueryFault → ℕ
query_status text_faults.OutOfMemory = 4
query_status fault = 2

-- The status if a run fails: by a read or a write, by memory or a thread, or by too many refused
-- lines.
abbrev pub run_status : RunFault → ℕ
run_status run_faults.Reading = 3
run_status run_faults.WritingReport = 3
run_status run_faults.WritingRefused = 3
run_status run_faults.WritingPart = 3
run_status run_faults.OutOfMemory = 4
run_status run_faults.ThreadNotStarted = 4
run_status (run_faults.TooManyRefused most) = 5

-- The status if a join fails: by the parts, or as a run does.
abbrev pub join_status : JoinFault → ℕ
join_status (join_faults.Parts fault) = 6
join_status (join_faults.Run fault) = run_status fault

-- The status if the program ends without what it was asked for.
abbrev pub status_of : Ending → ℕ
status_of (ending.Words fault) = 2
status_of (ending.Schema fault) = schema_status fault
status_of (ending.Query fault) = query_status fault
status_of ending.NotOpened = 3
status_of (ending.Run fault) = run_status fault
status_of (ending.Join fault) = join_status fault

-- The status if it is done: 1 if a report is written and lines are refused, and otherwise 0.
abbrev pub done_status : (partial : Bool) → Done → ℕ
done_status true done = 0
done_status false done = if done.refused == 0 then 0 else 1

-- The program ends by a status, of what is done, or by an ending. This is its status.
abbrev pub last_status : Result ℕ Ending → ℕ
last_status (Ok status) = status
last_status (Err ending) = status_of ending

-- ---- texts

-- How a program that is asked for a text ends: the text is written, with status 0; or memory ran
-- out, and nothing is written; or a write failed, and a beginning of it is written.
abbrev pub EndsByText : List ℕ → Result ℕ Ending → (out_old out_new : Option (List ℕ)) → Type 0
EndsByText text (Ok status) out_old out_new = (status ≡ 0) × Appends out_old out_new text
EndsByText text (Err (ending.Run run_faults.OutOfMemory)) out_old out_new = Keeps out_old out_new
EndsByText text (Err (ending.Run run_faults.WritingReport)) out_old out_new =
    AppendsBeginning out_old out_new text
EndsByText text (Err other) out_old out_new = ⊥

-- Whether the words ask for a text of clap, which is help or the version.
abbrev pub AsksForText : ErrorKind → Type 0
AsksForText kind = (kind ≡ kinds.DisplayHelp) ⊎ (kind ≡ kinds.DisplayVersion)

-- How the program ends if clap answers this in place of settings: by its text, if the words ask
-- for one; for want of memory, if that is the answer; and otherwise because the words are refused.
pub record EndsByClap (error : Error) (end : Result ℕ Ending) (out_old out_new : Option (List ℕ))
    : Type 0 where
  pub text : AsksForText (kind_of error) → (text : List ℕ) × EndsByText text end out_old out_new
  pub memory : kind_of error ≡ kinds.OutOfMemory
      → (end ≡ Err (ending.Run run_faults.OutOfMemory)) × Keeps out_old out_new
  pub refused : ¬ AsksForText (kind_of error) → kind_of error ≢ kinds.OutOfMemory
      → (end ≡ Err (ending.Words (words_faults.Clap error))) × Keeps out_old out_new

-- How a program that has no settings ends.
abbrev pub EndsByWords : WordsFault → Result ℕ Ending → (out_old out_new : Option (List ℕ)) → Type 0
EndsByWords (words_faults.Clap error) end out_old out_new = EndsByClap error end out_old out_new
EndsByWords words_faults.Range end out_old out_new =
    (end ≡ Err (ending.Words words_faults.Range)) × Keeps out_old out_new
EndsByWords words_faults.NotUtf8 end out_old out_new =
    (end ≡ Err (ending.Words words_faults.NotUtf8)) × Keeps out_old out_new

-- ---- columns and query

-- The columns are good, and this is the fault of the query: that of its text, or the first of what
-- is wrong under the columns with the query that it derives.
pub record HasQueryFault (columns query : List ℕ) (fault : QueryFault) : Type 0 where
  pub fields : List Field
  pub schema : schema_of columns ≡ Ok fields
  pub told : IsRefusalOf query fault
      ⊎ ((form : Query) × Derives query form
      × (slice_get (query_faults fields form) 0 ≡ Some fault))

-- The program ends since the columns are refused, or else the query, by the fault that they have;
-- or memory ran out while they were read.
abbrev pub IsRefused : (columns query : List ℕ) → Result ℕ Ending → Type 0
IsRefused columns query (Err (ending.Schema fault)) =
    (fault ≡ schema_faults.OutOfMemory) ⊎ (schema_of columns ≡ Err fault)
IsRefused columns query (Err (ending.Query fault)) =
    (fault ≡ text_faults.OutOfMemory) ⊎ HasQueryFault columns query fault
IsRefused columns query end = ⊥

-- ---- a report or a part

-- The end that an answer is, if a fault is this ending.
abbrev pub end_of : {F : Type 0} → (F → Ending) → (partial : Bool) → Result Done F → Result ℕ Ending
end_of to_ending partial (Ok done) = Ok (done_status partial done)
end_of to_ending partial (Err fault) = Err (to_ending fault)

-- How a program that is asked for a report ends, or for a part in its place, of the lines that
-- are given, or with --join of the lines whose parts are given: as the run, or as the join. Beside
-- a part nothing goes to the second output.
abbrev pub EndsByRun : (join partial : Bool) → Result ℕ Ending → Option ℕ → List Field → Query
    → (given out_old out_new err_old err_new : Option (List ℕ)) → Type 0
EndsByRun false false end limit fields q given out_old out_new err_old err_new =
    (result : Result Done RunFault) × (end ≡ end_of ending.Run false result)
    × IsRun result limit fields q given out_old out_new err_old err_new
EndsByRun false true end limit fields q given out_old out_new err_old err_new =
    (result : Result Done RunFault) × (end ≡ end_of ending.Run true result)
    × IsPartialRun result limit fields q given out_old out_new × Keeps err_old err_new
EndsByRun true false end limit fields q given out_old out_new err_old err_new =
    (result : Result Done JoinFault) × (end ≡ end_of ending.Join false result)
    × IsJoin result limit fields q given out_old out_new err_old err_new
EndsByRun true true end limit fields q given out_old out_new err_old err_new =
    (result : Result Done JoinFault) × (end ≡ end_of ending.Join true result)
    × IsPartialJoin result limit fields q given out_old out_new × Keeps err_old err_new

-- ---- the program

-- How a program whose columns and query are good ends. If an explanation is asked for, by
-- that text, and no file is opened. Else the file is opened, once: it cannot be, and nothing is
-- written; or what is asked for is done over what its reader gives.
abbrev pub EndsByQuery : {F R : Type 0} → (opens : Mut F (Bor (List ℕ) × Unit {0}) (Option R))
    → (before after : F)
    → (remaining : R → Option (List ℕ)) → (file : List ℕ) → (explain join partial : Bool) → Option ℕ
    → List Field → Query
    → Result ℕ Ending → (out_old out_new err_old err_new : Option (List ℕ)) → Type 0
EndsByQuery opens before after remaining file true join partial limit fields q end out_old out_new
    err_old err_new =
    EndsByText (explanation fields q) end out_old out_new × Keeps err_old err_new × (after ≡ before)
EndsByQuery {F} {R} opens before after remaining file false join partial limit fields q end out_old
    out_new err_old err_new =
    (CalledAt opens before file None after × (end ≡ Err ending.NotOpened)
    × Keeps out_old out_new × Keeps err_old err_new)
    ⊎ ((reader : R) × CalledAt opens before file (Some reader) after
    × EndsByRun join partial end limit fields q (remaining reader) out_old out_new err_old err_new)

-- How a program that has settings ends: the columns or the query are refused, and no file is
-- opened and nothing written; or they are good.
abbrev pub EndsBySettings : {F R : Type 0} → (opens : Mut F (Bor (List ℕ) × Unit {0}) (Option R))
    → (before after : F)
    → (remaining : R → Option (List ℕ)) → (columns query file : List ℕ)
    → (explain join partial : Bool) → Option ℕ
    → Result ℕ Ending → (out_old out_new err_old err_new : Option (List ℕ)) → Type 0
EndsBySettings opens before after remaining columns query file explain join partial limit end
    out_old out_new err_old err_new =
    (IsRefused columns query end × (after ≡ before) × Keeps out_old out_new × Keeps err_old err_new)
    ⊎ ((good : IsAnswerable columns query)
    × EndsByQuery opens before after remaining file explain join partial limit good.fields good.form
    end out_old out_new err_old err_new)

-- What the second output gets at the end: nothing more if it is done, and otherwise a text, after
-- what was written there before.
abbrev pub IsTold : Result ℕ Ending → (old new : Option (List ℕ)) → Type 0
IsTold (Ok status) old new = Keeps old new
IsTold (Err ending) old new = (text : List ℕ) × Appends old new text

-- The program ends so, tells it, and answers its status.
pub record IsServed (ends : Result ℕ Ending → Option (List ℕ) → Type 0) (status : ℕ)
    (err_new : Option (List ℕ)) : Type 0 where
  pub end : Result ℕ Ending
  pub err_then : Option (List ℕ)
  pub reached : ends end err_then
  pub answered : status ≡ last_status end
  pub told : IsTold end err_then err_new
