-- Which column has a name.
use Rattle.std.specs.Prelude.{◌≡◌, ◌≢◌, ◌<◌, ◌≤◌, ℕ, List, get_or, length}
use Rattle.semantics.specs.Columns.{Field}
use Rattle.values.specs.declared.schema.Column.{Column}
use Rattle.values.specs.Schema.{fields_of}

-- At this place stands a column of this name.
abbrev pub IsPlaceOf : List Column → List ℕ → ℕ → Type 0
IsPlaceOf columns name place = (place < length columns) × ((d : Field) → (get_or (fields_of columns) place d).name ≡ name)

-- No column from the place `low` up to, but not at, `high` has this name.
abbrev pub NoneHasName : List Column → List ℕ → (low high : ℕ) → Type 0
NoneHasName columns name low high = (k : ℕ) → low ≤ k → k < high → (d : Field) → (get_or (fields_of columns) k d).name ≢ name
