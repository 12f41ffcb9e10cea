-- The bytes of rows, made in parts.
use Rattle.std.specs.Prelude.{◌≡◌, ℕ, List}
use Rattle.std.specs.Global.{Vec}
use Rattle.std.specs.declared.alloc.AllocError.{AllocError}
use Rattle.std.specs.declared.result.Result.{Result}
use Rattle.semantics.specs.Aggregates.{CellValue}
use Rattle.report_rows.specs.Parts.{AreOfParts}
use Rattle.report.specs.Inside.Text.{rows_bytes}

-- a text has the bytes of rows
abbrev pub IsTextOf : List (List CellValue) → List ℕ → Type 0
IsTextOf rows text = text ≡ rows_bytes rows

-- Each text that was made has the bytes of its part of the rows.
abbrev pub AreTextsOf : ℕ → List (List CellValue) → List (Result (Vec ℕ) AllocError) → Type 0
AreTextsOf size rows texts = AreOfParts IsTextOf size rows texts
