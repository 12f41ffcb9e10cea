-- The text of a report, row by row.
use Rattle.std.proofs.Common.{◌≡◌, ◌∙◌, ℕ, Option, None, Some, List, [], ◌∷◌, ◌++◌, map, refl, ap, sym, append_assoc}
use Rattle.std.specs.Io.KnownBytes.{Appends}
use Rattle.std.specs.List.{flat_map}
use Rattle.std.proofs.lemmas.List.{append-nil, flat_map_more, map-append}
use Rattle.std.proofs.lemmas.List.Concat.{flat_map-append}
use Rattle.csv.specs.Writing.{row_text, default_writer}
use Rattle.semantics.specs.Syntax.{SelectItem}
use Rattle.semantics.specs.Canonical.{header_text}
use Rattle.semantics.specs.Aggregates.{CellValue}
use Rattle.std.specs.Global.{Vec}
use Rattle.std.specs.declared.alloc.AllocError.{AllocError}
use Rattle.std.specs.declared.result.Result.{Result}
use Rattle.report_rows.specs.Parts.{AreMade, items_of}
use Rattle.report_rows.proofs.InParts.{parts-joined}
use Rattle.semantics.specs.Texts.{cell_field, report_bytes}
use Rattle.report.specs.Inside.Text.{rows_bytes}
use Rattle.report.specs.Inside.Parts.{AreTextsOf, IsTextOf}

-- one more row behind those that were written
pub written-next : (items : List SelectItem) (old new : Option (List ℕ)) (done more : List (List CellValue)) (row : List CellValue) → old ≡ Some (report_bytes items done) → Appends old new (row_text default_writer (map cell_field row)) → more ≡ done ++ row ∷ [] → new ≡ Some (report_bytes items more)
written-next items None new done more row is appends all = absurd cc
written-next items (Some xs) None done more row is appends all = absurd appends
written-next items (Some xs) (Some ys) done more row is appends all =
    let head = row_text default_writer (map header_text items) in
    let written : xs ≡ report_bytes items done = cc in
    ap Some (appends
    ∙ ap (λ (bs : List ℕ). bs ++ row_text default_writer (map cell_field row)) written
    ∙ flat_map_more (row_text default_writer) head (map (map cell_field) done) (map cell_field row)
    ∙ ap (λ (rows : List (List (List ℕ))). head ++ flat_map (row_text default_writer) rows) (sym (map-append (map cell_field) done (row ∷ [])))
    ∙ ap (report_bytes items) (sym all))

-- rows behind rows
pub rows-append : (rows more : List (List CellValue)) → rows_bytes (rows ++ more) ≡ rows_bytes rows ++ rows_bytes more
rows-append rows more =
    ap (flat_map (row_text default_writer)) (map-append (map cell_field) rows more)
    ∙ flat_map-append (row_text default_writer) (map (map cell_field) rows) (map (map cell_field) more)

-- texts one after the other have the bytes of all rows
pub texts-joined : (size : ℕ) (rows : List (List CellValue)) (texts : List (Result (Vec ℕ) AllocError)) → AreTextsOf size rows texts → AreMade texts → flat_map items_of texts ≡ rows_bytes rows
texts-joined = parts-joined IsTextOf refl (λ xs us ys vs e f. (λ i. e i ++ f i) ∙ sym (rows-append xs us))

-- one more row behind those that were written behind what was there
pub appended-next : (old new next : Option (List ℕ)) (done more : List (List CellValue)) (row : List CellValue)
    → Appends old new (rows_bytes done) → Appends new next (row_text default_writer (map cell_field row)) → more ≡ done ++ row ∷ [] → Appends old next (rows_bytes more)
appended-next None new next done more row first then all = tt
appended-next (Some xs) None next done more row first then all = absurd first
appended-next (Some xs) (Some ys) None done more row first then all = absurd then
appended-next (Some xs) (Some ys) (Some zs) done more row first then all =
    then
    ∙ ap (λ (bs : List ℕ). bs ++ row_text default_writer (map cell_field row)) first
    ∙ append_assoc xs (rows_bytes done) (row_text default_writer (map cell_field row))
    ∙ ap (λ (bs : List ℕ). xs ++ bs) (ap (λ (bs : List ℕ). rows_bytes done ++ bs) (sym (append-nil (row_text default_writer (map cell_field row))))
    ∙ sym (rows-append done (row ∷ []))
    ∙ ap rows_bytes (sym all))

-- no row behind what was there
pub appended-none : (old : Option (List ℕ)) → Appends old old []
appended-none None = tt
appended-none (Some xs) = sym (append-nil xs)

-- the headers, and then the rows
pub report-written : (items : List SelectItem) (old new : Option (List ℕ)) (text : List ℕ) (rows : List (List CellValue))
    → old ≡ Some (report_bytes items []) → Appends old new (rows_bytes rows) → new ≡ Some text → text ≡ report_bytes items rows
report-written items None new text rows begun appends ended = absurd cc
report-written items (Some xs) None text rows begun appends ended = absurd appends
report-written items (Some xs) (Some ys) text rows begun appends ended =
    let head = row_text default_writer (map header_text items) in
    let first : xs ≡ head ++ [] = cc in
    let last : ys ≡ text = cc in
    sym last ∙ appends ∙ ap (λ (bs : List ℕ). bs ++ rows_bytes rows) (first ∙ append-nil head)

-- the headers, and then the texts of the rows
pub report-joined : (items : List SelectItem) (begun : Option (List ℕ)) (text whole bytes : List ℕ) (rows : List (List CellValue))
    → begun ≡ Some (report_bytes items []) → begun ≡ Some text → whole ≡ text ++ bytes → bytes ≡ rows_bytes rows → whole ≡ report_bytes items rows
report-joined items None text whole bytes rows first is all of_rows = absurd cc
report-joined items (Some xs) text whole bytes rows first is all of_rows =
    let head = row_text default_writer (map header_text items) in
    let begins : xs ≡ head ++ [] = cc in
    let same : xs ≡ text = cc in
    all ∙ (λ i. (sym same ∙ begins ∙ append-nil head) i ++ of_rows i)
