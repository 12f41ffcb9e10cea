-- The bytes of the report (RFC 4180), and of the list of refused lines.
use Rattle.std.specs.Fmt.{signed_decimal}
use Rattle.std.specs.List.{flat_map}
use Rattle.std.specs.Prelude.{ℕ, ◌==◌, true, false, List, [], ◌∷◌, ◌++◌, map, codes, decimal, if◌then◌else◌}
use Rattle.csv.specs.Writing.{row_text, default_writer}
use Rattle.semantics.specs.Aggregates.{CellValue, plain, ratio}
use Rattle.semantics.specs.Canonical.{header_text, name_at}
use Rattle.semantics.specs.Columns.{Field}
use Rattle.semantics.specs.Syntax.{SelectItem}
use Rattle.semantics.specs.Values.{Datum, boolean, whole, text, null}
use Rattle.semantics.specs.declared.line_fault.LineFault.{LineFault}
use Rattle.semantics.specs.declared.line_fault.LineFault.TheVariants.{TooLong, NoJson, NoObject, BadValue}

-- ---- the report

-- A text that begins with a backslash has one more before it, so that none is the sign of NULL.
abbrev pub escaped_text : List ℕ → List ℕ
escaped_text [] = []
escaped_text (b ∷ bs) = if b == 92 then 92 ∷ b ∷ bs else b ∷ bs

-- A value as a field.
abbrev pub value_field : Datum → List ℕ
value_field (boolean true) = codes "true"
value_field (boolean false) = codes "false"
value_field (whole n) = signed_decimal n
value_field (text s) = escaped_text s
value_field null = codes "\\N"

-- A cell as a field; an average is its sum and its count.
abbrev pub cell_field : CellValue → List ℕ
cell_field (plain d) = value_field d
cell_field (ratio sum count) = signed_decimal sum ++ codes "/" ++ decimal count

-- The bytes of a report: the header of each item, and then each row, as CSV with commas, line
-- feeds, and quotes if they are needed.
abbrev pub report_bytes : List SelectItem → List (List CellValue) → List ℕ
report_bytes items rows =
    flat_map (row_text default_writer) (map header_text items ∷ map (map cell_field) rows)

-- ---- the refused lines

-- What is wrong with a line.
abbrev pub fault_text : List Field → LineFault → List ℕ
fault_text fields TooLong = codes "too long"
fault_text fields NoJson = codes "not JSON"
fault_text fields NoObject = codes "not an object"
fault_text fields (BadValue place) = codes "bad value in column " ++ name_at fields place

-- A refused line: its number, and what is wrong with it.
abbrev pub refused_line : List Field → ℕ × LineFault → List ℕ
refused_line fields refused =
    codes "line " ++ decimal refused.0 ++ codes ": " ++ fault_text fields refused.1 ++ codes "\n"
