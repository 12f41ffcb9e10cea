-- What holds of an input that a result is known to stand for.
use Rattle.std.proofs.Common.{◌≡◌, ◌∙◌, ◌≤◌, ℕ, List, length, Option, Some, None, refl, subst, sym, ap, arith}
use Rattle.semantics.specs.Columns.{Field}
use Rattle.semantics.specs.ResultRows.{rows_before_having}
use Rattle.semantics.specs.Groups.{Record}
use Rattle.semantics.specs.Lines.{lines}
use Rattle.semantics.specs.Parts.{ContentsForm, contents_over, part_text, text_of, values_with, with_checksum}
use Rattle.semantics.specs.Records.{refused_lines}
use Rattle.semantics.specs.Run.{IsWithin, refusals, report}
use Rattle.lines.specs.Clip.{clip_lines}
use Rattle.lines.proofs.Clips.{count-clip, refused-clip, valid-clip}
use Rattle.report.specs.Report.{refusals_of, report_of}
use Rattle.tables.specs.Partials.{StandsForInput}
use Rattle.tables.specs.States.{PartialState}
use Rattle.jlreport_scan.specs.Gathered.{IsWhole, limit_number}
use Rattle.jlreport_scan.proofs.Tallies.{lines-of-input, refused-of-input}
use Rattle.jlreport_engine.specs.Inside.Run.{AreReadAs, StandsForKnown, StandsForReading}
use Rattle.query_plan.specs.Planned.{PlannedQuery}

-- ---- which inputs these are

clipped : (fields : List Field) (input : List ℕ) → AreReadAs fields (clip_lines input) input
clipped fields input = record { lines = count-clip input; valid = valid-clip fields input; refused = refused-clip fields input }

-- a gathered result stands for what the reader gives
pub stands-gathered : (plan : PlannedQuery) (known : Option (List ℕ)) (partial : PartialState) → IsWhole plan known partial → StandsForKnown plan known partial
stands-gathered plan None partial whole = tt
stands-gathered plan (Some input) partial whole =
    record { bytes = whole.bytes; stands = whole.stands; same = subst (λ bytes. AreReadAs plan.fields bytes input) (sym whole.clipped) (clipped plan.fields input) }

-- a result that stands for an input itself
pub stands-itself : (plan : PlannedQuery) (partial : PartialState) (input : List ℕ) → StandsForInput plan partial input → StandsForReading plan partial input
stands-itself plan partial input stands = record { bytes = input; stands = stands; same = record { lines = refl; valid = refl; refused = refl } }

-- ---- counts

pub lines-read : (plan : PlannedQuery) (partial : PartialState) (input : List ℕ) → StandsForReading plan partial input → partial.lines ≡ length (lines input)
lines-read plan partial input s = lines-of-input plan partial s.bytes s.stands ∙ s.same.lines

pub refused-read : (plan : PlannedQuery) (partial : PartialState) (input : List ℕ) → StandsForReading plan partial input
    → partial.refused ≡ length (refused_lines plan.fields input)
refused-read plan partial input s = refused-of-input plan partial s.bytes s.stands ∙ ap length s.same.refused

-- where there is no limit, the greatest number of 64 bits stands for it
pub within : (limit : Option ℕ) (count : ℕ) → count ≤ limit_number limit → IsWithin limit count
within None count few = tt
within (Some most) count few = omega (arith, few)

-- ---- texts

-- a text is that of each input for which a result stands
abbrev pub IsTextOf : (List ℕ → List ℕ) → PlannedQuery → PartialState → List ℕ → Type 0
IsTextOf text_over plan partial text = (input : List ℕ) → StandsForInput plan partial input → text ≡ text_over input

pub report-read : (plan : PlannedQuery) (partial : PartialState) (text input : List ℕ) → IsTextOf (report plan.fields plan.query) plan partial text
    → StandsForReading plan partial input → text ≡ report plan.fields plan.query input
report-read plan partial text input is s = is s.bytes s.stands ∙ ap (λ (rows : List Record). report_of plan.fields plan.query (rows_before_having plan.fields plan.query rows)) s.same.valid

pub refusals-read : (plan : PlannedQuery) (partial : PartialState) (text input : List ℕ) → IsTextOf (refusals plan.fields) plan partial text
    → StandsForReading plan partial input → text ≡ refusals plan.fields input
refusals-read plan partial text input is s = is s.bytes s.stands ∙ ap (refusals_of plan.fields) s.same.refused

contents-read : (plan : PlannedQuery) (bytes input : List ℕ) → AreReadAs plan.fields bytes input → contents_over plan.fields plan.query bytes ≡ contents_over plan.fields plan.query input
contents-read plan bytes input same = rw (same.lines, same.valid, same.refused) refl

pub part-read : (plan : PlannedQuery) (partial : PartialState) (text input : List ℕ) → IsTextOf (part_text plan.fields plan.query) plan partial text
    → StandsForReading plan partial input → text ≡ part_text plan.fields plan.query input
part-read plan partial text input is s =
    is s.bytes s.stands ∙ ap (λ (all : ContentsForm). with_checksum (text_of (values_with plan.fields plan.query all))) (contents-read plan s.bytes input s.same)
