-- The parts of inputs are taken: none has a fault.
use Rattle.std.proofs.Common.{◌≡◌, ◌<◌, ◌≤◌, ◌+◌, ◌-◌, ◌^◌, ℕ, List, [], ◌∷◌, ◌++◌, length, map, Option, Some, None, Ok, Err, refl, sym, ap, ◌∙◌, arith, length-append}
use Rattle.std.proofs.lemmas.List.Concat.{flat_map-cons}
use Rattle.std.specs.List.{AllByRecursion}
use Rattle.std.specs.Prelude.{IfSome, IsTrue, Result, flat_map, is_some, option_map, unwrap_or}
use Rattle.std.specs.Str.{is_utf8}
use Rattle.json.specs.Print.{quoted}
use Rattle.semantics.specs.Canonical.{canonical_text}
use Rattle.semantics.specs.Columns.{Field}
use Rattle.semantics.specs.Conditions.{kept_records}
use Rattle.semantics.specs.ResultRows.{aggregate_functions}
use Rattle.semantics.specs.GroupStates.{EntryForm, entries_over}
use Rattle.semantics.specs.Groups.{Record}
use Rattle.semantics.specs.Joins.{CanBeJoined}
use Rattle.semantics.specs.Lines.{lines}
use Rattle.semantics.specs.Parts.{checksum, newline_terminated, columns_text, concatenated, contents_over, groups_values, header_of, number, part_text, part_values, refused_values, text_of}
use Rattle.semantics.specs.Records.{Fits, refused_lines, valid_records}
use Rattle.semantics.specs.Sets.{grouping_places}
use Rattle.semantics.specs.Syntax.{Query}
use Rattle.semantics.specs.Values.{Datum}
use Rattle.semantics.specs.declared.line_fault.LineFault.{LineFault}
use Rattle.values.specs.Schema.{IsSchema}
use Rattle.lines.proofs.Clips.{lines-clip}
use Rattle.lines.proofs.Fronts.{lines-whole_lines}
use Rattle.lines.specs.Clip.{clip_lines}
use Rattle.query_plan.specs.Planned.{PlannedQuery}
use Rattle.tables.proofs.Bags.{all-append}
use Rattle.tables.specs.States.{PartialState}
use Rattle.part_lines.specs.Known.{IsWritable}
use Rattle.parts.specs.Joining.{AnswersParts, IsNoFault}
use Rattle.parts.specs.Inside.Reader.{IsKnown, ReaderState, stream_of}
use Rattle.parts.specs.ReadingParts.{parts_at}
use Rattle.parts.specs.declared.fault.PartsRefusal.{PartsRefusal}
use Rattle.parts.specs.declared.fault.PartsRefusal.TheVariants as refusal
use Rattle.parts.proofs.Accepted.{AreContentsFor, AreRefusedFor}
use Rattle.parts.proofs.AllAccepted.{all-read, lines_together}
use Rattle.parts.proofs.AllBack.{some-lines}
use Rattle.parts.proofs.Closing.{closed-lines, closed-whole}
use Rattle.parts.proofs.FrontValues.{checksum-writable, header-writable, number-writable, refused-writable}
use Rattle.parts.proofs.GroupValues.{groups-writable, record-writable}
use Rattle.parts.proofs.RecordGroups.{groups-few, groups-fit, groups-possible}
use Rattle.parts.proofs.RecordTexts.{IsShort, TextIs, records-short}
use Rattle.parts.proofs.RefusedLines.{kept-all, kept-few, records-fit, refused-fit}

-- ---- lines, one input behind the other

together : (inputs : List (List ℕ)) → length (lines (concatenated inputs)) ≡ lines_together inputs
together [] = refl
together (input ∷ inputs) =
    ap (λ bytes. length (lines bytes)) (flat_map-cons newline_terminated input inputs)
    ∙ ap length (lines-whole_lines (newline_terminated input) (concatenated inputs) (closed-whole input))
    ∙ length-append (lines (newline_terminated input)) (lines (concatenated inputs))
    ∙ (λ i. length (closed-lines input i) + together inputs i)

-- ---- the contents of an input

-- no number is above that of all lines
within : (fields : List Field) (lines last : ℕ) (refused : List (ℕ × LineFault)) → AreRefusedFor fields lines last refused → AllByRecursion (λ x. x.0 ≤ lines) refused
within fields lines last [] are = tt
within fields lines last (x ∷ refused) are = (are.1, within fields lines x.0 refused are.3)

all-written : (fields : List Field) (rows : List Record) → AllByRecursion (Fits fields) rows → AllByRecursion (λ row. AllByRecursion (TextIs IsShort) row) rows → AllByRecursion (λ row. AllByRecursion IsWritable row) rows
all-written fields [] fit short = tt
all-written fields (row ∷ rows) fit short = (record-writable fields row fit.0 short.0, all-written fields rows fit.1 short.1)

module _ (fields : List Field) (q : Query) (schema : IsSchema fields) (utf8 : IsTrue (is_utf8 (canonical_text q))) (columns : length (quoted (columns_text fields)) ≤ 1000000) (query : length (quoted (canonical_text q)) ≤ 1000000) where
  abbrev kept : List ℕ → List Record
  kept input = kept_records fields q (valid_records fields input)

  abbrev refused : List ℕ → List (ℕ × LineFault)
  refused input = refused_lines fields input

  abbrev groups : List ℕ → List EntryForm
  groups input = entries_over (grouping_places fields q) (aggregate_functions fields q) (kept input)

  -- they are such as a reader refuses nothing of
  contents-for : (before : ℕ) (input : List ℕ) → before + length (lines input) < 2 ^ 63 → AreContentsFor fields q before (contents_over fields q input)
  contents-for before input few =
      let parted = kept-few fields q input in
      record {
        few = few;
        refused_few = omega (arith, parted);
        refused = refused-fit fields schema input;
        possible = groups-possible fields q (kept input);
        groups_few = omega (arith, groups-few fields q (kept input), parted, few);
        groups = groups-fit fields q (kept input) (length (lines input) - length (refused input)) (records-fit fields q input) (omega (arith, parted));
      }

  -- and their values can be written
  contents-writable : (input : List ℕ) → length (lines input) < 2 ^ 63 → AllByRecursion IsWritable (part_values fields q input ++ checksum (text_of (part_values fields q input)) ∷ [])
  contents-writable input few =
      let parted = kept-few fields q input in
      let fit = records-fit fields q input in
      let short = kept-all (λ row. AllByRecursion (TextIs IsShort) row) fields q (valid_records fields input) (records-short fields input) in
      let refused_ds : List Datum = refused_values fields (refused input) in
      let numbers = refused-writable fields schema columns (length (lines input)) (refused input) few (within fields (length (lines input)) 0 (refused input) (refused-fit fields schema input)) in
      let count = number-writable (length (groups input)) (omega (arith, groups-few fields q (kept input), parted, few)) in
      let front = all-append IsWritable (header_of (columns_text fields) (canonical_text q)) (number (length (lines input)) ∷ number (length (refused input)) ∷ refused_ds ++ number (length (groups input)) ∷ [])
      (header-writable fields schema columns q utf8 query)
      (number-writable (length (lines input)) (omega (arith, few)), (number-writable (length (refused input)) (omega (arith, parted, few)), all-append IsWritable refused_ds (number (length (groups input)) ∷ []) numbers (count, tt))) in
      let values = all-append IsWritable (header_of (columns_text fields) (canonical_text q) ++ number (length (lines input)) ∷ number (length (refused input)) ∷ refused_ds ++ number (length (groups input)) ∷ []) (groups_values (groups input)) front
      (groups-writable fields (grouping_places fields q) (aggregate_functions fields q) (kept input) (omega (arith, parted, few)) fit (all-written fields (kept input) fit short)) in
      all-append IsWritable (part_values fields q input) (checksum (text_of (part_values fields q input)) ∷ []) values (checksum-writable (text_of (part_values fields q input)), tt)

  parts-taken : (inputs : List (List ℕ)) → CanBeJoined fields q inputs → parts_at fields q (lines (clip_lines (flat_map (part_text fields q) inputs))) ≡ Ok (map (contents_over fields q) inputs)
  parts-taken inputs can = all-read fields q contents-for contents-writable inputs can.some (omega (arith, together inputs, can.few))

-- ---- what a reader of parts answers

no-fault : (plan : PlannedQuery) (bytes : List ℕ) (r : Result PartialState PartsRefusal) → IsSchema plan.fields → IsTrue (is_utf8 (canonical_text plan.query)) → AnswersParts plan (lines (clip_lines bytes)) r
    → (inputs : List (List ℕ)) → bytes ≡ flat_map (part_text plan.fields plan.query) inputs → CanBeJoined plan.fields plan.query inputs → IsNoFault r
no-fault plan bytes (Ok partial) schema utf8 answers inputs is can = tt
no-fault plan bytes (Err refusal.Reading) schema utf8 answers inputs is can = tt
no-fault plan bytes (Err refusal.OutOfMemory) schema utf8 answers inputs is can = tt
no-fault plan bytes (Err (refusal.Fault fault)) schema utf8 answers inputs is can =
    let read = sym answers ∙ ap (λ (given : List ℕ). parts_at plan.fields plan.query (lines (clip_lines given))) is ∙ parts-taken plan.fields plan.query schema utf8 can.columns can.query inputs can in
    absurd cc

-- what is answered of the parts of inputs that can be joined is no fault of theirs
pub known-taken : (plan : PlannedQuery) (known : Option (List ℕ)) (r : Result PartialState PartsRefusal) → IsSchema plan.fields → IsTrue (is_utf8 (canonical_text plan.query)) → IfSome known (λ bytes. AnswersParts plan (lines (clip_lines bytes)) r)
    → IfSome known (λ bytes. (inputs : List (List ℕ)) → bytes ≡ flat_map (part_text plan.fields plan.query) inputs → CanBeJoined plan.fields plan.query inputs → IsNoFault r)
known-taken plan None r schema utf8 answers = tt
known-taken plan (Some bytes) r schema utf8 answers = no-fault plan bytes r schema utf8 answers

-- where no line is left, no parts were given that can be joined
nothing-given : (plan : PlannedQuery) (bytes : List ℕ) → lines (clip_lines bytes) ≡ [] → (inputs : List (List ℕ)) → bytes ≡ flat_map (part_text plan.fields plan.query) inputs → CanBeJoined plan.fields plan.query inputs → ⊥
nothing-given plan bytes none [] is can = can.some refl
nothing-given plan bytes none (input ∷ inputs) is can =
    let given : List ℕ = flat_map (part_text plan.fields plan.query) (input ∷ inputs) in
    some-lines plan.fields plan.query input inputs (sym (lines-clip given) ∙ ap (λ (bs : List ℕ). lines (clip_lines bs)) (sym is) ∙ none)

pub none-given : (plan : PlannedQuery) (reader : ReaderState) (known : Option (List ℕ)) → reader.left ≡ option_map clip_lines known → (IsKnown reader → (stream_of reader).left ≡ [])
    → IfSome known (λ bytes. (inputs : List (List ℕ)) → bytes ≡ flat_map (part_text plan.fields plan.query) inputs → CanBeJoined plan.fields plan.query inputs → ⊥)
none-given plan reader None left none = tt
none-given plan reader (Some bytes) left none =
    nothing-given plan bytes (ap (λ (o : Option (List ℕ)). lines (unwrap_or o [])) (sym left) ∙ none (ap is_some left))
