-- What a run answers and leaves, from what it is known to have made and written.
use Rattle.std.proofs.Common.{◌≡◌, ◌≢◌, ◌<◌, ◌∙◌, ℕ, List, length, Option, Some, None, Result, Ok, Err, refl, subst, sym, arith}
use Rattle.std.proofs.KnownBytes.{Keeps-refl}
use Rattle.std.specs.Io.KnownBytes.{Appends, Keeps}
use Rattle.std.specs.Prelude.{◌↔◌, IfSome, IsErrAnd, IsOk}
use Rattle.semantics.specs.Columns.{Field}
use Rattle.semantics.specs.Joins.{IsPartialRun, LeavesPart}
use Rattle.semantics.specs.Parts.{part_text}
use Rattle.semantics.specs.Records.{refused_lines}
use Rattle.semantics.specs.Run.{AppendsBeginning, IsAnswer, IsResourceFault, IsRun, IsWithin, Leaves, refusals, report}
use Rattle.semantics.specs.declared.run_done.Done.{Done}
use Rattle.semantics.specs.declared.run_fault.RunFault.{RunFault}
use Rattle.semantics.specs.declared.run_fault.RunFault.TheVariants.{Reading, OutOfMemory, ThreadNotStarted, TooManyRefused, WritingReport, WritingRefused, WritingPart}
use Rattle.tables.specs.States.{PartialState}
use Rattle.jlreport_scan.specs.Faults.{Stops}
use Rattle.jlreport_scan.specs.RunFaults.{fault_of_gathering}
use Rattle.jlreport_scan.specs.declared.fault.GatherFault.{GatherFault}
use Rattle.jlreport_scan.specs.declared.fault.GatherFault.TheVariants as gathering
use Rattle.jlreport_engine.specs.Inside.Run.{StandsForKnown, StandsForReading, StopsRun}
use Rattle.jlreport_engine.specs.Inside.Written.{LeavesWritten}
use Rattle.jlreport_engine.proofs.Known.{IsTextOf, lines-read, part-read, refusals-read, refused-read, report-read}
use Rattle.query_plan.specs.Planned.{PlannedQuery}

-- ---- what is answered

-- a run that counts what a result counts
pub record Counts (done : Done) (limit : Option ℕ) (partial : PartialState) : Type 0 where
  pub lines : done.lines ≡ partial.lines
  pub refused : done.refused ≡ partial.refused
  pub within : IsWithin limit partial.refused

pub answer-done : (done : Done) (limit : Option ℕ) (plan : PlannedQuery) (known : Option (List ℕ)) (partial : PartialState)
    → Counts done limit partial → StandsForKnown plan known partial → IsAnswer (Ok done) limit plan.fields known
answer-done done limit plan None partial counts stands =
    record { counts_lines = tt; counts_refused = tt; is_within = subst (IsWithin limit) (sym counts.refused) counts.within; is_decided = λ _. tt }
answer-done done limit plan (Some input) partial counts stands =
    let count = refused-read plan partial input stands in
    record {
      counts_lines = counts.lines ∙ lines-read plan partial input stands;
      counts_refused = counts.refused ∙ count;
      is_within = subst (IsWithin limit) (sym counts.refused) counts.within;
      is_decided = λ _. (λ _. subst (IsWithin limit) count counts.within, λ _. refl);
    }

pub answer-resource : (fault : RunFault) (limit : Option ℕ) (fields : List Field) (known : Option (List ℕ)) → IsResourceFault fault → IsAnswer (Err fault) limit fields known
answer-resource fault limit fields known is = record { counts_lines = tt; counts_refused = tt; is_within = tt; is_decided = λ free. absurd (free is) }

-- that more lines are refused than the limit decides the answer
over : (limit : Option ℕ) (most : ℕ) (fields : List Field) (known : Option (List ℕ)) → limit ≡ Some most → IfSome known (λ input. most < length (refused_lines fields input))
    → IfSome known (λ input. IsOk {T = Done} (Err (TooManyRefused most)) ↔ IsWithin limit (length (refused_lines fields input)))
over limit most fields None is more = tt
over limit most fields (Some input) is more =
    (λ no. let wrong = no in absurd cc, λ few. let at_most = subst (λ (x : Option ℕ). IsWithin x (length (refused_lines fields input))) is few in absurd (omega (arith, more, at_most)))

pub answer-stopped : (fault : RunFault) (limit : Option ℕ) (fields : List Field) (known : Option (List ℕ)) → StopsRun fault limit fields known → IsAnswer (Err fault) limit fields known
answer-stopped Reading limit fields known stops = answer-resource Reading limit fields known tt
answer-stopped OutOfMemory limit fields known stops = answer-resource OutOfMemory limit fields known tt
answer-stopped ThreadNotStarted limit fields known stops = answer-resource ThreadNotStarted limit fields known tt
answer-stopped (TooManyRefused most) limit fields known stops =
    record { counts_lines = tt; counts_refused = tt; is_within = tt; is_decided = λ _. over limit most fields known stops.0 stops.1 }
answer-stopped WritingReport limit fields known stops = absurd stops
answer-stopped WritingRefused limit fields known stops = absurd stops
answer-stopped WritingPart limit fields known stops = absurd stops

-- ---- runs that fail before anything is written

-- a fault of gathering says of the run what it says of the gathering
pub stops-gathered : (fault : GatherFault) (limit : Option ℕ) (fields : List Field) (known : Option (List ℕ)) → Stops fault limit fields known
    → StopsRun (fault_of_gathering fault) limit fields known
stops-gathered gathering.Reading limit fields known stops = tt
stops-gathered gathering.OutOfMemory limit fields known stops = tt
stops-gathered gathering.ThreadNotStarted limit fields known stops = tt
stops-gathered (gathering.TooManyRefused most) limit fields known stops = stops

-- a run that gets no seed stops as by a failed read, whatever its input
pub stops-unseeded : (fault : RunFault) (limit : Option ℕ) (fields : List Field) (known : Option (List ℕ)) → fault ≡ Reading → StopsRun fault limit fields known
stops-unseeded fault limit fields known is = subst (λ (f : RunFault). StopsRun f limit fields known) (sym is) tt

-- where no thread is wanted for the result, none is wanted for the run
pub thread-gathered : (fault : GatherFault) → fault ≢ gathering.ThreadNotStarted → fault_of_gathering fault ≢ ThreadNotStarted
thread-gathered gathering.Reading h = λ no. let wrong = no in absurd cc
thread-gathered gathering.OutOfMemory h = λ no. let wrong = no in absurd cc
thread-gathered gathering.ThreadNotStarted h = λ no. h refl
thread-gathered (gathering.TooManyRefused most) h = λ no. let wrong = no in absurd cc

leaves-stopped : (fault : RunFault) (limit : Option ℕ) (plan : PlannedQuery) (known out err : Option (List ℕ)) → StopsRun fault limit plan.fields known
    → Keeps out out → Keeps err err → Leaves fault limit plan.fields plan.query known out out err err
leaves-stopped Reading limit plan known out err stops a b = (a, b)
leaves-stopped OutOfMemory limit plan known out err stops a b = (a, b)
leaves-stopped ThreadNotStarted limit plan known out err stops a b = (a, b)
leaves-stopped (TooManyRefused most) limit plan known out err stops a b = (stops.0, stops.1, a, b)
leaves-stopped WritingReport limit plan known out err stops a b = absurd stops
leaves-stopped WritingRefused limit plan known out err stops a b = absurd stops
leaves-stopped WritingPart limit plan known out err stops a b = absurd stops

leaves-part-stopped : (fault : RunFault) (limit : Option ℕ) (plan : PlannedQuery) (known out : Option (List ℕ)) → StopsRun fault limit plan.fields known
    → Keeps out out → LeavesPart fault limit plan.fields plan.query known out out
leaves-part-stopped Reading limit plan known out stops a = a
leaves-part-stopped OutOfMemory limit plan known out stops a = a
leaves-part-stopped ThreadNotStarted limit plan known out stops a = a
leaves-part-stopped (TooManyRefused most) limit plan known out stops a = (stops.0, stops.1, a)
leaves-part-stopped WritingReport limit plan known out stops a = absurd stops
leaves-part-stopped WritingRefused limit plan known out stops a = absurd stops
leaves-part-stopped WritingPart limit plan known out stops a = absurd stops

pub run-stopped : (r : Result Done RunFault) (fault : RunFault) (limit : Option ℕ) (plan : PlannedQuery) (known out err : Option (List ℕ))
    → IsErrAnd r (λ given. given ≡ fault) → StopsRun fault limit plan.fields known → IsRun r limit plan.fields plan.query known out out err err
run-stopped (Ok done) fault limit plan known out err is stops = absurd is
run-stopped (Err given) fault limit plan known out err is stops =
    let stopped = subst (λ (f : RunFault). StopsRun f limit plan.fields known) (sym is) stops in
    record {
      writes_report = tt;
      writes_refusals = tt;
      answers = answer-stopped given limit plan.fields known stopped;
      leaves = leaves-stopped given limit plan known out err stopped (Keeps-refl out) (Keeps-refl err);
    }

pub part-stopped : (r : Result Done RunFault) (fault : RunFault) (limit : Option ℕ) (plan : PlannedQuery) (known out : Option (List ℕ))
    → IsErrAnd r (λ given. given ≡ fault) → StopsRun fault limit plan.fields known → IsPartialRun r limit plan.fields plan.query known out out
part-stopped (Ok done) fault limit plan known out is stops = absurd is
part-stopped (Err given) fault limit plan known out is stops =
    let stopped = subst (λ (f : RunFault). StopsRun f limit plan.fields known) (sym is) stops in
    record {
      writes_part = tt;
      answers = answer-stopped given limit plan.fields known stopped;
      leaves = leaves-part-stopped given limit plan known out stopped (Keeps-refl out);
    }

-- ---- runs that write

-- what is known of a text that was written is known of that of the input
of-text : (P : List ℕ → Type 0) (text : List ℕ) (text_over : List ℕ → List ℕ) (plan : PlannedQuery) (known : Option (List ℕ)) (partial : PartialState)
    → ((input : List ℕ) → StandsForReading plan partial input → text ≡ text_over input) → StandsForKnown plan known partial → P text → IfSome known (λ input. P (text_over input))
of-text P text text_over plan None partial is stands holds = tt
of-text P text text_over plan (Some input) partial is stands holds = subst P (is input stands) holds

-- not more lines of a known input are refused than the limit
few-known : (limit : Option ℕ) (plan : PlannedQuery) (known : Option (List ℕ)) (partial : PartialState) → IsWithin limit partial.refused
    → StandsForKnown plan known partial → IfSome known (λ input. IsWithin limit (length (refused_lines plan.fields input)))
few-known limit plan None partial within stands = tt
few-known limit plan (Some input) partial within stands = subst (IsWithin limit) (refused-read plan partial input stands) within

both-known : (known : Option (List ℕ)) (P Q : List ℕ → Type 0) → IfSome known P → IfSome known Q → IfSome known (λ input. P input × Q input)
both-known None P Q p q = tt
both-known (Some input) P Q p q = (p, q)

all-known : (known : Option (List ℕ)) (P Q R : List ℕ → Type 0) → IfSome known P → IfSome known Q → IfSome known R → IfSome known (λ input. P input × Q input × R input)
all-known None P Q R p q r = tt
all-known (Some input) P Q R p q r = (p, q, r)

-- the texts of a result
pub record AreTextsOf (plan : PlannedQuery) (partial : PartialState) (text list : List ℕ) : Type 0 where
  pub report : IsTextOf (report plan.fields plan.query) plan partial text
  pub refusals : IsTextOf (refusals plan.fields) plan partial list

-- both texts were written
pub run-done : (done : Done) (limit : Option ℕ) (plan : PlannedQuery) (known : Option (List ℕ)) (partial : PartialState) (text list : List ℕ) (oo on eo en : Option (List ℕ))
    → Counts done limit partial → StandsForKnown plan known partial → AreTextsOf plan partial text list → Appends oo on text → Appends eo en list
    → IsRun (Ok done) limit plan.fields plan.query known oo on eo en
run-done done limit plan known partial text list oo on eo en counts stands are written listed = record {
  writes_report = of-text (Appends oo on) text (report plan.fields plan.query) plan known partial (λ input. report-read plan partial text input are.report) stands written;
  writes_refusals = of-text (Appends eo en) list (refusals plan.fields) plan known partial (λ input. refusals-read plan partial list input are.refusals) stands listed;
  answers = answer-done done limit plan known partial counts stands;
  leaves = tt;
}

-- a write of them failed
pub run-unwritten : (fault : RunFault) (limit : Option ℕ) (plan : PlannedQuery) (known : Option (List ℕ)) (partial : PartialState) (text list : List ℕ) (oo on eo en : Option (List ℕ))
    → IsWithin limit partial.refused → StandsForKnown plan known partial → AreTextsOf plan partial text list → LeavesWritten fault text list oo on eo en
    → IsRun (Err fault) limit plan.fields plan.query known oo on eo en
run-unwritten Reading limit plan known partial text list oo on eo en within stands are left = absurd left
run-unwritten OutOfMemory limit plan known partial text list oo on eo en within stands are left = absurd left
run-unwritten ThreadNotStarted limit plan known partial text list oo on eo en within stands are left = absurd left
run-unwritten (TooManyRefused most) limit plan known partial text list oo on eo en within stands are left = absurd left
run-unwritten WritingPart limit plan known partial text list oo on eo en within stands are left = absurd left
run-unwritten WritingReport limit plan known partial text list oo on eo en within stands are left = record {
  writes_report = tt;
  writes_refusals = tt;
  answers = answer-resource WritingReport limit plan.fields known tt;
  leaves = (
    both-known known (λ input. IsWithin limit (length (refused_lines plan.fields input))) (λ input. AppendsBeginning oo on (report plan.fields plan.query input))
        (few-known limit plan known partial within stands)
        (of-text (AppendsBeginning oo on) text (report plan.fields plan.query) plan known partial (λ input. report-read plan partial text input are.report) stands left.0),
    left.1,
  );
}
run-unwritten WritingRefused limit plan known partial text list oo on eo en within stands are left = record {
  writes_report = tt;
  writes_refusals = tt;
  answers = answer-resource WritingRefused limit plan.fields known tt;
  leaves =
      all-known known (λ input. IsWithin limit (length (refused_lines plan.fields input))) (λ input. Appends oo on (report plan.fields plan.query input)) (λ input. AppendsBeginning eo en (refusals plan.fields input))
      (few-known limit plan known partial within stands)
      (of-text (Appends oo on) text (report plan.fields plan.query) plan known partial (λ input. report-read plan partial text input are.report) stands left.0)
      (of-text (AppendsBeginning eo en) list (refusals plan.fields) plan known partial (λ input. refusals-read plan partial list input are.refusals) stands left.1);
}

-- no fault of writing is one of a thread
pub thread-unwritten : (fault : RunFault) (text list : List ℕ) (oo on eo en : Option (List ℕ)) → LeavesWritten fault text list oo on eo en → fault ≢ ThreadNotStarted
thread-unwritten fault text list oo on eo en left e = subst (λ (f : RunFault). LeavesWritten f text list oo on eo en) e left

-- ---- runs that write a part

pub part-done : (done : Done) (limit : Option ℕ) (plan : PlannedQuery) (known : Option (List ℕ)) (partial : PartialState) (text : List ℕ) (oo on : Option (List ℕ))
    → Counts done limit partial → StandsForKnown plan known partial → IsTextOf (part_text plan.fields plan.query) plan partial text → Appends oo on text
    → IsPartialRun (Ok done) limit plan.fields plan.query known oo on
part-done done limit plan known partial text oo on counts stands is written = record {
  writes_part = of-text (Appends oo on) text (part_text plan.fields plan.query) plan known partial (λ input. part-read plan partial text input is) stands written;
  answers = answer-done done limit plan known partial counts stands;
  leaves = tt;
}

pub part-unwritten : (limit : Option ℕ) (plan : PlannedQuery) (known : Option (List ℕ)) (partial : PartialState) (text : List ℕ) (oo on : Option (List ℕ))
    → IsWithin limit partial.refused → StandsForKnown plan known partial → IsTextOf (part_text plan.fields plan.query) plan partial text → AppendsBeginning oo on text
    → IsPartialRun (Err WritingPart) limit plan.fields plan.query known oo on
part-unwritten limit plan known partial text oo on within stands is begun = record {
  writes_part = tt;
  answers = answer-resource WritingPart limit plan.fields known tt;
  leaves =
      both-known known (λ input. IsWithin limit (length (refused_lines plan.fields input))) (λ input. AppendsBeginning oo on (part_text plan.fields plan.query input))
      (few-known limit plan known partial within stands)
      (of-text (AppendsBeginning oo on) text (part_text plan.fields plan.query) plan known partial (λ input. part-read plan partial text input is) stands begun);
}
