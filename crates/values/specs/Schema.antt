-- The columns that contracts see, of columns of the program, and what holds of those of a schema.
use Rattle.std.specs.Prelude.{◌≢◌, ◌≤◌, List, length, map, All, AllPairs, IsTrue, string_bytes}
use Rattle.values.specs.declared.schema.Column.{Column}
use Rattle.semantics.specs.Columns.{Field}
use Rattle.semantics.specs.Words.{is_word}

abbrev pub field_of : Column → Field
field_of column = record { name = string_bytes column.name; kind = column.kind }

abbrev pub fields_of : List Column → List Field
fields_of columns = map field_of columns

-- ---- names and types

-- a schema has 1 to 32 columns with different names
pub record IsSchema (fields : List Field) : Type 0 where
  pub some : 1 ≤ length fields
  pub few : length fields ≤ 32
  pub names : All (λ f. IsTrue (is_word f.name)) fields
  pub names_differ : AllPairs (λ f g. f.name ≢ g.name) fields
