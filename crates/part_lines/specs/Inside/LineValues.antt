-- The values of lines.
use Rattle.std.specs.Prelude.{true, false, ℕ, List, [], ◌∷◌, Option, Some, None}
use Rattle.semantics.specs.Values.{Datum, boolean, null}
use Rattle.values.specs.Datum.{datum_of}
use Rattle.values.specs.declared.value.Value.{Value}
use Rattle.part_lines.specs.LineValues.{IsTextOf}
use Rattle.semantics.specs.Parts.{number}

-- A line is none of the literal names of JSON.
abbrev pub IsNoLiteralName : List ℕ → Type 0
IsNoLiteralName line = ¬ IsTextOf line (boolean true) × ¬ IsTextOf line (boolean false) × ¬ IsTextOf line null

-- Of a line a reader of some of the values tells which of them has it as its text, or that none
-- has.
abbrev pub TellsAmong : {X : Type 0} → (X → Datum) → List ℕ → Option Value → Type 0
TellsAmong some line (Some value) = IsTextOf line (datum_of value)
TellsAmong {X} some line None = (x : X) → ¬ IsTextOf line (some x)

-- A count, as a list of one value.
abbrev pub count_values : ℕ → List Datum
count_values n = number n ∷ []
