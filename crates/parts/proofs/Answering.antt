-- What reading all parts answers.
use Rattle.std.proofs.Common.{◌≡◌, ◌≢◌, ◌+◌, ℕ, List, [], ◌∷◌, length, map, Option, Some, None, Result, Ok, Err, refl, sym, ap, subst, ◌∙◌, arith}
use Rattle.std.specs.Prelude.{IfOk, IfSome, flat_map, is_some, option_map, unwrap_or}
use Rattle.lines.specs.Clip.{clip_lines}
use Rattle.part_lines.specs.Reading.{Stream}
use Rattle.query_plan.specs.Planned.{PlannedQuery}
use Rattle.semantics.specs.Columns.{Field}
use Rattle.semantics.specs.Lines.{lines}
use Rattle.semantics.specs.Syntax.{Query}
use Rattle.semantics.specs.Parts.{ContentsForm, contents_over, concatenated, part_text}
use Rattle.tables.specs.Partials.{StandsForInput}
use Rattle.tables.specs.Sound.{IsSoundUnder}
use Rattle.tables.specs.States.{PartialState}
use Rattle.values.specs.Schema.{IsSchema}
use Rattle.parts.specs.declared.fault.PartsRefusal.{PartsRefusal}
use Rattle.parts.specs.declared.fault.PartsRefusal.TheVariants as refusal
use Rattle.parts.specs.Faults.{PartedFault, in_part, parted_of}
use Rattle.parts.specs.Inside.Faults.{RefusesParts}
use Rattle.parts.specs.Inside.Gathering.{IsOfOnePiece, contents_in}
use Rattle.parts.specs.Joining.{AnswersParts}
use Rattle.parts.specs.Inside.Joining.{ArePartsFrom, JoinsBehind}
use Rattle.parts.specs.Inside.Reader.{IsKnown, ReaderState, stream_of}
use Rattle.parts.specs.ReadingParts.{behind_part, part_at, parts_at, with_fault}
use Rattle.parts.proofs.AllBack.{all-back}
use Rattle.parts.proofs.Joins.{ContentsLaw, first-stands, read-Err, read-Ok}
use Rattle.parts.proofs.Onward.{at_fault, at_part}

-- the parts of lines, of which there are some
are-parts : (fields : List Field) (q : Query) (ls : List (List ℕ)) (answer : Result (List ContentsForm) PartedFault) → ls ≢ [] → ArePartsFrom fields q 1 0 (record { left = ls; place = 0 }) answer → parts_at fields q ls ≡ answer
are-parts fields q [] answer some read = absurd (some refl)
are-parts fields q (line ∷ more) answer some read = read (length (line ∷ more)) (omega arith)

module _ (plan : PlannedQuery) (ls : List (List ℕ)) (some : ls ≢ []) where
  abbrev start : Stream
  start = record { left = ls; place = 0 }

  -- the first part has a fault
  fault-first : (e : PartsRefusal) → RefusesParts e (with_fault (in_part 1) (part_at plan.fields plan.query 0 start)) → AnswersParts plan ls (Err e)
  fault-first refusal.Reading h = tt
  fault-first refusal.OutOfMemory h = tt
  fault-first (refusal.Fault f) h =
      let w = read-Err (in_part 1) (part_at plan.fields plan.query 0 start) (parted_of f) h in
      subst (λ (g : PartedFault). parts_at plan.fields plan.query ls ≡ Err g) w.seen (are-parts plan.fields plan.query ls (Err (in_part 1 w.fault)) some (at_fault plan.fields plan.query 1 0 start w.fault some w.is))

  -- the first part was read, and those behind it
  behind-first : (first : PartialState) (next : Stream) (others answer : Result (List ContentsForm) PartedFault) → with_fault (in_part 1) (part_at plan.fields plan.query 0 start) ≡ Ok (contents_in first, next)
      → ArePartsFrom plan.fields plan.query 2 first.lines next others → parts_at plan.fields plan.query ls ≡ behind_part (contents_in first) others
  behind-first first next others answer is read =
      let lines : first.lines ≡ 0 + first.lines = omega arith in
      are-parts plan.fields plan.query ls (behind_part (contents_in first) others) some
      (at_part plan.fields plan.query 1 0 start (contents_in first) next others some (read-Ok (in_part 1) (part_at plan.fields plan.query 0 start) (contents_in first, next) is) (subst (λ n. ArePartsFrom plan.fields plan.query 2 n next others) lines read))

  all-read : ContentsLaw → (first : PartialState) (next : Stream) (r : Result PartialState PartsRefusal) → IsSoundUnder plan first → IsOfOnePiece first → with_fault (in_part 1) (part_at plan.fields plan.query 0 start) ≡ Ok (contents_in first, next)
      → JoinsBehind plan first 2 next r → AnswersParts plan ls r
  all-read law first next (Ok whole) sound one is joins = record {
    contents = contents_in first ∷ joins.0;
    read = behind-first first next (Ok joins.0) (Ok joins.0) is joins.1;
    stands = joins.2 (contents_in first ∷ []) (first-stands law plan first sound one);
  }
  all-read law first next (Err (refusal.Fault f)) sound one is joins = behind-first first next (Err (parted_of f)) (Err (parted_of f)) is joins
  all-read law first next (Err refusal.Reading) sound one is joins = tt
  all-read law first next (Err refusal.OutOfMemory) sound one is joins = tt

-- ---- of parts that were written

written-stands : (plan : PlannedQuery) (bytes : List ℕ) (r : Result PartialState PartsRefusal) → IsSchema plan.fields → AnswersParts plan (lines (clip_lines bytes)) r → (inputs : List (List ℕ)) → bytes ≡ flat_map (part_text plan.fields plan.query) inputs
    → IfOk r (λ partial. StandsForInput plan partial (concatenated inputs))
written-stands plan bytes (Err e) schema answers inputs is = tt
written-stands plan bytes (Ok partial) schema answers inputs is =
    answers.stands inputs
    (subst (λ r. IfOk r (λ cs. cs ≡ map (contents_over plan.fields plan.query) inputs)) (sym (ap (λ (bs : List ℕ). parts_at plan.fields plan.query (lines (clip_lines bs))) is) ∙ answers.read) (all-back plan.fields plan.query schema inputs))

-- ---- of a reader whose bytes are known

module _ (plan : PlannedQuery) (reader seen : ReaderState) (same : IsKnown reader → stream_of seen ≡ stream_of reader) (some : IsKnown reader → (stream_of reader).left ≢ []) where
  -- before the first line
  first-line : (bytes : List ℕ) → reader.left ≡ Some (clip_lines bytes) → reader.line ≡ 0 → stream_of reader ≡ record { left = lines (clip_lines bytes); place = 0 }
  first-line bytes left line = λ i. record { left = lines (unwrap_or (left i) []); place = line i }

  pub known-fault : (known : Option (List ℕ)) (e : PartsRefusal) → reader.left ≡ option_map clip_lines known → reader.line ≡ 0 → (IsKnown reader → RefusesParts e (with_fault (in_part 1) (part_at plan.fields plan.query 0 (stream_of seen))))
      → IfSome known (λ bytes. AnswersParts plan (lines (clip_lines bytes)) (Err e))
  known-fault None e left line refuses = tt
  known-fault (Some bytes) e left line refuses =
      let is : IsKnown reader = ap is_some left in
      let there = first-line bytes left line in
      fault-first plan (lines (clip_lines bytes)) (λ none. some is (ap (λ s. s.left) there ∙ none)) e
      (subst (λ (s : Stream). RefusesParts e (with_fault (in_part 1) (part_at plan.fields plan.query 0 s))) (same is ∙ there) (refuses is))

  pub known-all : ContentsLaw → (known : Option (List ℕ)) (first : PartialState) (after : ReaderState) (r : Result PartialState PartsRefusal) → reader.left ≡ option_map clip_lines known → reader.line ≡ 0 → IsSoundUnder plan first → IsOfOnePiece first
      → (IsKnown reader → with_fault (in_part 1) (part_at plan.fields plan.query 0 (stream_of seen)) ≡ Ok (contents_in first, stream_of after)) → (IsKnown reader → JoinsBehind plan first 2 (stream_of after) r)
      → IfSome known (λ bytes. AnswersParts plan (lines (clip_lines bytes)) r)
  known-all law None first after r left line sound one read joins = tt
  known-all law (Some bytes) first after r left line sound one read joins =
      let is : IsKnown reader = ap is_some left in
      let there = first-line bytes left line in
      all-read plan (lines (clip_lines bytes)) (λ none. some is (ap (λ s. s.left) there ∙ none)) law first (stream_of after) r sound one
      (subst (λ (s : Stream). with_fault (in_part 1) (part_at plan.fields plan.query 0 s) ≡ Ok (contents_in first, stream_of after)) (same is ∙ there) (read is)) (joins is)

pub known-stands : (plan : PlannedQuery) (known : Option (List ℕ)) (r : Result PartialState PartsRefusal) → IsSchema plan.fields → IfSome known (λ bytes. AnswersParts plan (lines (clip_lines bytes)) r)
    → IfSome known (λ bytes. (inputs : List (List ℕ)) → bytes ≡ flat_map (part_text plan.fields plan.query) inputs → IfOk r (λ partial. StandsForInput plan partial (concatenated inputs)))
known-stands plan None r schema answers = tt
known-stands plan (Some bytes) r schema answers = written-stands plan bytes r schema answers
