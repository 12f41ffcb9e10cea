-- The report of a query on the groups that its grouping sets find, and the list of refused lines.
use Rattle.std.specs.List.{flat_map}
use Rattle.std.specs.Prelude.{◌+◌, ◌<◌, ◌≤◌, ◌^◌, ℕ, List, ◌∷◌, length, max, []}
use Rattle.semantics.specs.Columns.{Field, names_of}
use Rattle.semantics.specs.declared.line_fault.LineFault.{LineFault}
use Rattle.semantics.specs.Syntax.{Query}
use Rattle.semantics.specs.ResultRows.{ResultRow}
use Rattle.semantics.specs.Order.{report_values}
use Rattle.semantics.specs.Texts.{report_bytes, refused_line}

-- The bytes of the report.
abbrev pub report_of : List Field → Query → List ResultRow → List ℕ
report_of fields t found = report_bytes t.items (report_values fields t found)

-- The bytes of the list of refused lines.
abbrev pub refusals_of : List Field → List (ℕ × LineFault) → List ℕ
refusals_of fields refused = flat_map (refused_line fields) refused

-- The length of the longest of these texts.
abbrev pub longest : List (List ℕ) → ℕ
longest [] = 0
longest (text ∷ texts) = max (length text) (longest texts)

-- The most bytes of a refused line: `line `, a number of at most 20 digits,
-- `: bad value in column `, the longest name, and a line feed
abbrev pub line_room : List Field → ℕ
line_room fields = 48 + longest (names_of fields)

-- So many bytes are enough for each refused line, since the number of a line has 64 bits.
abbrev pub IsLineRoom : List Field → ℕ → Type 0
IsLineRoom fields room = (number : ℕ) (fault : LineFault) → number < 2 ^ 64 → length (refused_line fields (number, fault)) ≤ room
