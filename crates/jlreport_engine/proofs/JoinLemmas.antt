-- What joins answer and leave, from what was read and written.
use Rattle.std.proofs.Common.{◌≡◌, ◌≢◌, ◌∙◌, ◌<◌, ℕ, List, Option, Some, None, Result, Ok, Err, refl, subst, sym, ap}
use Rattle.std.proofs.KnownBytes.{Keeps-refl}
use Rattle.std.specs.List.{flat_map}
use Rattle.std.specs.Prelude.{IfErr, IfOk, IfSome, IsErrAnd, IsNone, IsOk, IsSome, MatchResult}
use Rattle.lines.specs.Clip.{clip_lines}
use Rattle.parts.specs.Faults.{PartedFault}
use Rattle.parts.specs.Joining.{AnswersParts, IsNoFault, IsReadAs}
use Rattle.parts.specs.ReadingParts.{parts_at}
use Rattle.parts.specs.declared.fault.PartsRefusal.{PartsRefusal}
use Rattle.parts.specs.declared.fault.PartsRefusal.TheVariants as refusal
use Rattle.query_plan.specs.Planned.{PlannedQuery}
use Rattle.semantics.specs.Joins.{ArePartsOf, CanBeJoined, IsJoin, IsPartialJoin, IsPartialRun, run_answer}
use Rattle.semantics.specs.Lines.{lines}
use Rattle.semantics.specs.Parts.{ContentsForm, concatenated, part_text}
use Rattle.semantics.specs.Run.{IsRun, IsWithin}
use Rattle.semantics.specs.declared.join_fault.JoinFault.{JoinFault}
use Rattle.semantics.specs.declared.join_fault.JoinFault.TheVariants.{Parts, Run}
use Rattle.semantics.specs.declared.parts_fault.PartsFault.{PartsFault}
use Rattle.semantics.specs.declared.run_done.Done.{Done}
use Rattle.semantics.specs.declared.run_fault.RunFault.{RunFault}
use Rattle.semantics.specs.declared.run_fault.RunFault.TheVariants.{Reading, OutOfMemory, ThreadNotStarted, TooManyRefused, WritingReport, WritingRefused, WritingPart}
use Rattle.tables.specs.Partials.{StandsForInput}
use Rattle.tables.specs.Sound.{IsSoundUnder}
use Rattle.tables.specs.States.{PartialState}
use Rattle.jlreport_scan.proofs.Tallies.{refused-of-input}
use Rattle.jlreport_engine.specs.Inside.Joined.{IsJoined, IsOver, StopsJoin, fault_of_parts}
use Rattle.jlreport_engine.specs.Inside.Run.{StandsForKnown}
use Rattle.jlreport_engine.proofs.Known.{stands-itself}
use Rattle.jlreport_engine.proofs.Outcomes.{part-stopped, run-stopped}

-- ---- what was read

-- a result of parts stands for their inputs
abbrev StandsForGiven : PlannedQuery → Option (List ℕ) → PartialState → Type 0
StandsForGiven plan given partial =
    IfSome given (λ bytes. (inputs : List (List ℕ)) → bytes ≡ flat_map (part_text plan.fields plan.query) inputs → StandsForInput plan partial (concatenated inputs))

given-stands : (plan : PlannedQuery) (given : Option (List ℕ)) (partial : PartialState) → StandsForGiven plan given partial
    → (inputs : List (List ℕ)) → ArePartsOf plan.fields plan.query inputs given → StandsForInput plan partial (concatenated inputs)
given-stands plan None partial stands inputs are = let wrong = are in absurd cc
given-stands plan (Some bytes) partial stands inputs are = stands inputs (let same = are in cc)

abbrev read_as : PlannedQuery → List ℕ → Result (List ContentsForm) PartedFault
read_as plan bytes = parts_at plan.fields plan.query (lines (clip_lines bytes))

-- a result of parts, of which not more lines are refused than the limit
pub joined : (limit : Option ℕ) (plan : PlannedQuery) (given : Option (List ℕ)) (partial : PartialState) → IsSoundUnder plan partial → IsWithin limit partial.refused
    → StandsForGiven plan given partial → IfSome given (λ bytes. AnswersParts plan (lines (clip_lines bytes)) (Ok partial)) → IsJoined (Ok partial) limit plan given
joined limit plan given partial sound within stands answers = record {
  sound = sound;
  within = within;
  stands = given-stands plan given partial stands;
  stops = tt;
  started = tt;
  reads = are-parts given answers;
}
  where
    are-parts : (given : Option (List ℕ)) → IfSome given (λ bytes. AnswersParts plan (lines (clip_lines bytes)) (Ok partial)) → IfSome given (λ bytes. IsReadAs {X = PartialState} (Ok partial) (read_as plan bytes))
    are-parts None answers = tt
    are-parts (Some bytes) answers = let read = answers.read in cc

-- parts that were refused
refused-reads : (plan : PlannedQuery) (given : Option (List ℕ)) (why : PartsRefusal) → IfSome given (λ bytes. AnswersParts plan (lines (clip_lines bytes)) (Err why))
    → IfSome given (λ bytes. IsReadAs {X = PartialState} (Err (fault_of_parts why)) (read_as plan bytes))
refused-reads plan None why answers = tt
refused-reads plan (Some bytes) (refusal.Fault fault) answers = answers
refused-reads plan (Some bytes) refusal.Reading answers = tt
refused-reads plan (Some bytes) refusal.OutOfMemory answers = tt

-- they are no parts that can be joined
abbrev TakesGiven : {X : Type 0} → PlannedQuery → Option (List ℕ) → Result X PartsRefusal → Type 0
TakesGiven plan given r =
    IfSome given (λ bytes. (inputs : List (List ℕ)) → bytes ≡ flat_map (part_text plan.fields plan.query) inputs → CanBeJoined plan.fields plan.query inputs → IsNoFault r)

given-taken : (plan : PlannedQuery) (given : Option (List ℕ)) (fault : PartsFault) → TakesGiven {X = PartialState} plan given (Err (refusal.Fault fault))
    → (inputs : List (List ℕ)) → ArePartsOf plan.fields plan.query inputs given → ¬ CanBeJoined plan.fields plan.query inputs
given-taken plan None fault takes inputs are can = let wrong = are in absurd cc
given-taken plan (Some bytes) fault takes inputs are can = takes inputs (let same = are in cc) can

refused-stops : (limit : Option ℕ) (plan : PlannedQuery) (given : Option (List ℕ)) (why : PartsRefusal) → TakesGiven {X = PartialState} plan given (Err why) → StopsJoin (fault_of_parts why) limit plan given
refused-stops limit plan given (refusal.Fault fault) takes = given-taken plan given fault takes
refused-stops limit plan given refusal.Reading takes = (tt, λ inputs are. tt)
refused-stops limit plan given refusal.OutOfMemory takes = (tt, λ inputs are. tt)

refused-started : (why : PartsRefusal) → fault_of_parts why ≢ Run ThreadNotStarted
refused-started (refusal.Fault fault) = λ no. let wrong = no in absurd cc
refused-started refusal.Reading = λ no. let wrong = no in absurd cc
refused-started refusal.OutOfMemory = λ no. let wrong = no in absurd cc

pub refused : (limit : Option ℕ) (plan : PlannedQuery) (given : Option (List ℕ)) (why : PartsRefusal)
    → IfSome given (λ bytes. AnswersParts plan (lines (clip_lines bytes)) (Err why)) → TakesGiven {X = PartialState} plan given (Err why) → IsJoined (Err (fault_of_parts why)) limit plan given
refused limit plan given why answers takes = record {
  sound = tt;
  within = tt;
  stands = tt;
  stops = refused-stops limit plan given why takes;
  started = refused-started why;
  reads = refused-reads plan given why answers;
}

-- parts of which more lines are refused than the limit
over-stops : (limit : Option ℕ) (plan : PlannedQuery) (given : Option (List ℕ)) (partial : PartialState) (most : ℕ) → limit ≡ Some most → most < partial.refused
    → StandsForGiven plan given partial → StopsJoin (Run (TooManyRefused most)) limit plan given
over-stops limit plan given partial most is more stands = (
  (is, tt),
  λ inputs are. (
    is,
    subst (λ count. most < count) (refused-of-input plan partial (concatenated inputs) (given-stands plan given partial stands inputs are)) more,
  ),
)

nothing-said : (given : Option (List ℕ)) (fault : RunFault) (read : List ℕ → Result (List ContentsForm) PartedFault) → IfSome given (λ bytes. IsReadAs {X = PartialState} (Err (Run fault)) (read bytes))
nothing-said None fault read = tt
nothing-said (Some bytes) fault read = tt

pub over : (limit : Option ℕ) (plan : PlannedQuery) (given : Option (List ℕ)) (partial : PartialState) (fault : RunFault) → IsOver limit partial.refused fault
    → StandsForGiven plan given partial → IsJoined (Err (Run fault)) limit plan given
over limit plan given partial Reading is stands = absurd is
over limit plan given partial OutOfMemory is stands = absurd is
over limit plan given partial ThreadNotStarted is stands = absurd is
over limit plan given partial WritingReport is stands = absurd is
over limit plan given partial WritingRefused is stands = absurd is
over limit plan given partial WritingPart is stands = absurd is
over limit plan given partial (TooManyRefused most) is stands = record {
  sound = tt;
  within = tt;
  stands = tt;
  stops = over-stops limit plan given partial most is.0 is.1 stands;
  started = λ no. let wrong = no in absurd cc;
  reads = nothing-said given (TooManyRefused most) (read_as plan);
}

-- ---- what a call that reads parts says, where its refusal becomes a fault

-- what a call that reads parts says
pub record IsRead (plan : PlannedQuery) (given : Option (List ℕ)) (r : Result PartialState PartsRefusal) : Type 0 where
  pub sound : IfOk r (IsSoundUnder plan)
  pub answers : IfSome given (λ bytes. AnswersParts plan (lines (clip_lines bytes)) r)
  pub stands : IfSome given (λ bytes. (inputs : List (List ℕ)) → bytes ≡ flat_map (part_text plan.fields plan.query) inputs
      → IfOk r (λ partial. StandsForInput plan partial (concatenated inputs)))
  pub takes : TakesGiven plan given r

-- what holds of an answer holds where its fault is mapped
pub of-mapped : {T E D : Type 0} (P : Result T E → Type 0) (r : Result T E) (s : Result T D) (Q : E → D → Type 0) (x : T) → MatchResult r (λ y. s ≡ Ok y) (λ e. IsErrAnd s (Q e)) → s ≡ Ok x
    → P r → P (Ok x)
of-mapped P (Ok y) s Q x is ok holds = subst P (let same = sym is ∙ ok in cc) holds
of-mapped P (Err e) (Ok y) Q x is ok holds = absurd is
of-mapped P (Err e) (Err d) Q x is ok holds = let wrong = ok in absurd cc

pub of-read : (limit : Option ℕ) (plan : PlannedQuery) (given : Option (List ℕ)) (partial : PartialState) → IsRead plan given (Ok partial) → IsWithin limit partial.refused → IsJoined (Ok partial) limit plan given
of-read limit plan given partial read within = joined limit plan given partial read.sound within read.stands read.answers

pub of-refusal : (limit : Option ℕ) (plan : PlannedQuery) (given : Option (List ℕ)) (r : Result PartialState PartsRefusal) (s t : Result PartialState JoinFault) (fault : JoinFault)
    → MatchResult r (λ y. s ≡ Ok y) (λ e. IsErrAnd s (λ d. d ≡ fault_of_parts e)) → s ≡ Err fault → IsErrAnd t (λ d. d ≡ fault)
    → IsRead plan given r → IsJoined t limit plan given
of-refusal limit plan given (Ok y) s t fault is err answer read = let wrong = sym is ∙ err in absurd cc
of-refusal limit plan given (Err why) s (Ok z) fault is err answer read = absurd answer
of-refusal limit plan given (Err why) (Ok y) (Err d) fault is err answer read = absurd is
of-refusal limit plan given (Err why) (Err f) (Err d) fault is err answer read =
    let same : fault_of_parts why ≡ d = let e = err in let a = answer in let i = is in cc in
    subst (λ (x : JoinFault). IsJoined (Err x) limit plan given) same (refused limit plan given why read.answers read.takes)

pub of-over : {X : Type 0} (limit : Option ℕ) (plan : PlannedQuery) (given : Option (List ℕ)) (partial : PartialState) (r : Result X RunFault) (s : Result X JoinFault)
    (t : Result PartialState JoinFault) (fault : JoinFault)
    → MatchResult r (λ y. s ≡ Ok y) (λ e. IsErrAnd s (λ d. d ≡ Run e)) → s ≡ Err fault → IsErrAnd t (λ d. d ≡ fault)
    → IfErr r (IsOver limit partial.refused) → IsRead plan given (Ok partial) → IsJoined t limit plan given
of-over limit plan given partial (Ok y) s t fault is err answer more read = let wrong = sym is ∙ err in absurd cc
of-over limit plan given partial (Err f) s (Ok z) fault is err answer more read = absurd answer
of-over limit plan given partial (Err f) (Ok y) (Err d) fault is err answer more read = absurd is
of-over limit plan given partial (Err f) (Err e) (Err d) fault is err answer more read =
    let same : Run f ≡ d = let h = err in let a = answer in let i = is in cc in
    subst (λ (x : JoinFault). IsJoined (Err x) limit plan given) same (over limit plan given partial f more read.stands)

-- ---- what is answered

-- a join that answers what a run does
pub answers-run : (r : Result Done RunFault) (s : Result Done JoinFault) → MatchResult r (λ x. s ≡ Ok x) (λ e. IsErrAnd s (λ d. d ≡ Run e)) → run_answer s ≡ Some r
answers-run (Ok done) s is = ap run_answer is
answers-run (Err fault) (Ok done) is = absurd is
answers-run (Err fault) (Err given) is = ap (λ (f : JoinFault). run_answer (Err f)) is

pub is-join : (r : Result Done RunFault) (s : Result Done JoinFault) (limit : Option ℕ) (plan : PlannedQuery) (given : Option (List ℕ)) (whole : PartialState) (oo on eo en : Option (List ℕ))
    → run_answer s ≡ Some r
    → ((limit : Option ℕ) (known : Option (List ℕ)) → IsWithin limit whole.refused → StandsForKnown plan known whole → IsRun r limit plan.fields plan.query known oo on eo en)
    → IsWithin limit whole.refused
    → ((inputs : List (List ℕ)) → ArePartsOf plan.fields plan.query inputs given → StandsForInput plan whole (concatenated inputs))
    → IsJoin s limit plan.fields plan.query given oo on eo en
is-join r s limit plan given whole oo on eo en same run within stands = record {
  is_run = λ inputs are.
      subst (λ (o : Option (Result Done RunFault)). IfSome o (λ answer. IsRun answer limit plan.fields plan.query (Some (concatenated inputs)) oo on eo en)) (sym same)
      (run limit (Some (concatenated inputs)) within (stands-itself plan whole (concatenated inputs) (stands inputs are)));
  takes = λ inputs are can. subst (λ (o : Option (Result Done RunFault)). IsSome o) (sym same) refl;
  is_some_run = subst (λ (o : Option (Result Done RunFault)). IfSome o (λ answer. IsRun answer limit plan.fields plan.query None oo on eo en)) (sym same) (run limit None within tt);
  keeps = λ none. let wrong = subst (λ (o : Option (Result Done RunFault)). IsNone o) same none in absurd cc;
}

pub is-partial-join : (r : Result Done RunFault) (s : Result Done JoinFault) (limit : Option ℕ) (plan : PlannedQuery) (given : Option (List ℕ)) (whole : PartialState) (oo on : Option (List ℕ))
    → run_answer s ≡ Some r
    → ((limit : Option ℕ) (known : Option (List ℕ)) → IsWithin limit whole.refused → StandsForKnown plan known whole → IsPartialRun r limit plan.fields plan.query known oo on)
    → IsWithin limit whole.refused
    → ((inputs : List (List ℕ)) → ArePartsOf plan.fields plan.query inputs given → StandsForInput plan whole (concatenated inputs))
    → IsPartialJoin s limit plan.fields plan.query given oo on
is-partial-join r s limit plan given whole oo on same run within stands = record {
  is_run = λ inputs are.
      subst (λ (o : Option (Result Done RunFault)). IfSome o (λ answer. IsPartialRun answer limit plan.fields plan.query (Some (concatenated inputs)) oo on)) (sym same)
      (run limit (Some (concatenated inputs)) within (stands-itself plan whole (concatenated inputs) (stands inputs are)));
  takes = λ inputs are can. subst (λ (o : Option (Result Done RunFault)). IsSome o) (sym same) refl;
  is_some_run = subst (λ (o : Option (Result Done RunFault)). IfSome o (λ answer. IsPartialRun answer limit plan.fields plan.query None oo on)) (sym same) (run limit None within tt);
  keeps = λ none. let wrong = subst (λ (o : Option (Result Done RunFault)). IsNone o) same none in absurd cc;
}

-- joins that fail before anything is written
stopped : (fault : JoinFault) (limit : Option ℕ) (plan : PlannedQuery) (given out err : Option (List ℕ)) → StopsJoin fault limit plan given
    → IsJoin (Err fault) limit plan.fields plan.query given out out err err
stopped (Parts fault) limit plan given out err stops = record { is_run = λ inputs are. tt; takes = λ inputs are can. absurd (stops inputs are can); is_some_run = tt; keeps = λ _. (Keeps-refl out, Keeps-refl err) }
stopped (Run fault) limit plan given out err stops = record {
  is_run = λ inputs are. run-stopped (Err fault) fault limit plan (Some (concatenated inputs)) out err refl (stops.1 inputs are);
  takes = λ inputs are can. refl;
  is_some_run = run-stopped (Err fault) fault limit plan None out err refl stops.0;
  keeps = λ none. let wrong = none in absurd cc;
}

pub join-stopped : (s : Result Done JoinFault) (fault : JoinFault) (limit : Option ℕ) (plan : PlannedQuery) (given out err : Option (List ℕ))
    → IsErrAnd s (λ f. f ≡ fault) → StopsJoin fault limit plan given → IsJoin s limit plan.fields plan.query given out out err err
join-stopped (Ok done) fault limit plan given out err is stops = absurd is
join-stopped (Err f) fault limit plan given out err is stops = stopped f limit plan given out err (subst (λ (x : JoinFault). StopsJoin x limit plan given) (sym is) stops)

partial-stopped : (fault : JoinFault) (limit : Option ℕ) (plan : PlannedQuery) (given out : Option (List ℕ)) → StopsJoin fault limit plan given
    → IsPartialJoin (Err fault) limit plan.fields plan.query given out out
partial-stopped (Parts fault) limit plan given out stops = record { is_run = λ inputs are. tt; takes = λ inputs are can. absurd (stops inputs are can); is_some_run = tt; keeps = λ _. Keeps-refl out }
partial-stopped (Run fault) limit plan given out stops = record {
  is_run = λ inputs are. part-stopped (Err fault) fault limit plan (Some (concatenated inputs)) out refl (stops.1 inputs are);
  takes = λ inputs are can. refl;
  is_some_run = part-stopped (Err fault) fault limit plan None out refl stops.0;
  keeps = λ none. let wrong = none in absurd cc;
}

pub partial-join-stopped : (s : Result Done JoinFault) (fault : JoinFault) (limit : Option ℕ) (plan : PlannedQuery) (given out : Option (List ℕ))
    → IsErrAnd s (λ f. f ≡ fault) → StopsJoin fault limit plan given → IsPartialJoin s limit plan.fields plan.query given out out
partial-join-stopped (Ok done) fault limit plan given out is stops = absurd is
partial-join-stopped (Err f) fault limit plan given out is stops = partial-stopped f limit plan given out (subst (λ (x : JoinFault). StopsJoin x limit plan given) (sym is) stops)

-- ---- what is said of the reading

reads-run : (r : Result Done RunFault) (s : Result Done JoinFault) (read : Result (List ContentsForm) PartedFault) → run_answer s ≡ Some r → IsOk read → IsReadAs s read
reads-run r (Ok done) read same is = is
reads-run r (Err (Run fault)) read same is = tt
reads-run r (Err (Parts fault)) read same is = let wrong = same in absurd cc

pub reads-done : (r : Result Done RunFault) (s : Result Done JoinFault) (given : Option (List ℕ)) (read : List ℕ → Result (List ContentsForm) PartedFault) → run_answer s ≡ Some r
    → IfSome given (λ bytes. IsOk (read bytes)) → IfSome given (λ bytes. IsReadAs s (read bytes))
reads-done r s None read same is = tt
reads-done r s (Some bytes) read same is = reads-run r s (read bytes) same is

reads-fault : (fault : JoinFault) (read : Result (List ContentsForm) PartedFault) → IsReadAs {X = PartialState} (Err fault) read → IsReadAs {X = Done} (Err fault) read
reads-fault (Parts fault) read is = is
reads-fault (Run fault) read is = tt

pub reads-stopped : (s : Result Done JoinFault) (fault : JoinFault) (given : Option (List ℕ)) (read : List ℕ → Result (List ContentsForm) PartedFault) → IsErrAnd s (λ f. f ≡ fault)
    → IfSome given (λ bytes. IsReadAs {X = PartialState} (Err fault) (read bytes)) → IfSome given (λ bytes. IsReadAs s (read bytes))
reads-stopped s fault None read is h = tt
reads-stopped (Ok done) fault (Some bytes) read is h = absurd is
reads-stopped (Err f) fault (Some bytes) read is h = subst (λ (x : JoinFault). IsReadAs {X = Done} (Err x) (read bytes)) (sym is) (reads-fault fault (read bytes) h)

-- ---- no fault of a join is one of a thread

abbrev run_fault : JoinFault → RunFault
run_fault (Run fault) = fault
run_fault (Parts fault) = Reading

pub started-done : (r : Result Done RunFault) (s : Result Done JoinFault) → run_answer s ≡ Some r → IfErr r (λ fault. fault ≢ ThreadNotStarted) → IfErr s (λ fault. fault ≢ Run ThreadNotStarted)
started-done r (Ok done) same is = tt
started-done r (Err (Parts fault)) same is = λ no. let wrong = no in absurd cc
started-done r (Err (Run fault)) same is =
    let not = subst (λ (o : Option (Result Done RunFault)). IfSome o (λ answer. IfErr answer (λ fault. fault ≢ ThreadNotStarted))) (sym same) is in
    λ no. not (ap run_fault no)

pub started-stopped : (s : Result Done JoinFault) (fault : JoinFault) → IsErrAnd s (λ f. f ≡ fault) → fault ≢ Run ThreadNotStarted → IfErr s (λ f. f ≢ Run ThreadNotStarted)
started-stopped (Ok done) fault is not = absurd is
started-stopped (Err f) fault is not = λ no. not (sym is ∙ no)

-- ---- joins that get no seed

-- a failed read stops a join, whatever was given
pub join-unseeded : (fault : JoinFault) (limit : Option ℕ) (plan : PlannedQuery) (given : Option (List ℕ)) → fault ≡ Run Reading → StopsJoin fault limit plan given
join-unseeded fault limit plan given is = subst (λ (f : JoinFault). StopsJoin f limit plan given) (sym is) (tt, λ inputs are. tt)

-- it says nothing of what would be read
nothing-read : (given : Option (List ℕ)) (read : List ℕ → Result (List ContentsForm) PartedFault) → IfSome given (λ bytes. IsReadAs {X = PartialState} (Err (Run Reading)) (read bytes))
nothing-read None read = tt
nothing-read (Some bytes) read = tt

pub reads-unseeded : (fault : JoinFault) (given : Option (List ℕ)) (read : List ℕ → Result (List ContentsForm) PartedFault) → fault ≡ Run Reading
    → IfSome given (λ bytes. IsReadAs {X = PartialState} (Err fault) (read bytes))
reads-unseeded fault given read is = subst (λ (f : JoinFault). IfSome given (λ bytes. IsReadAs {X = PartialState} (Err f) (read bytes))) (sym is) (nothing-read given read)

-- it is none of a thread
pub started-unseeded : (fault : JoinFault) → fault ≡ Run Reading → fault ≢ Run ThreadNotStarted
started-unseeded fault is = λ no. let wrong = sym is ∙ no in absurd cc
