-- The records of all lines fit the schema, and so do those that WHERE keeps.
use Rattle.std.proofs.Common.{◌≡◌, ℕ, List, map, Some, Result, Ok, Err}
use Rattle.std.specs.List.{AllByRecursion}
use Rattle.std.specs.Result.{result_ok}
use Rattle.semantics.specs.Values.{Datum}
use Rattle.semantics.specs.Records.{Fits, valid_records, decode_line}
use Rattle.semantics.specs.Columns.{Field}
use Rattle.semantics.specs.declared.line_fault.LineFault.{LineFault}
use Rattle.semantics.specs.Lines.{lines}
use Rattle.lines.proofs.Outcomes.{decoded-fits}
use Rattle.semantics.specs.Conditions.{is_kept, kept_records}
use Rattle.tables.specs.Pieces.{IndexedPiece, records_of}
use Rattle.tables.proofs.Bags.{all-everywhere, all-filter, all-filter_map, all-flat_map, all-map}
use Rattle.query_plan.specs.Planned.{PlannedQuery}

abbrev Outcome : Type 0
Outcome = Result (List Datum) LineFault

ok-is : (a : Outcome) (r : List Datum) → result_ok a ≡ Some r → a ≡ Ok r
ok-is (Ok x) r e = cc
ok-is (Err n) r e = cc

valid-fits : (fields : List Field) (input : List ℕ) → AllByRecursion (Fits fields) (valid_records fields input)
valid-fits fields input =
    all-filter_map (Fits fields) result_ok (map (decode_line fields) (lines input))
    (all-map (λ (a : Outcome). (r : List Datum) → result_ok a ≡ Some r → Fits fields r) (decode_line fields) (lines input)
    (all-everywhere _ (lines input) (λ line r e. decoded-fits fields line r (ok-is (decode_line fields line) r e))))

pub kept-fits : (plan : PlannedQuery) (pieces : List IndexedPiece)
    → AllByRecursion (Fits plan.fields) (kept_records plan.fields plan.query (records_of plan.fields pieces))
kept-fits plan pieces =
    all-filter (Fits plan.fields) (is_kept plan.fields plan.query) (records_of plan.fields pieces)
    (all-flat_map (Fits plan.fields) (λ piece. valid_records plan.fields piece.bytes) pieces (λ piece. valid-fits plan.fields piece.bytes))
