-- The explanation of a query.
use Rattle.std.specs.Io.KnownBytes.{Appends}
use Rattle.std.specs.List.{enumerate_from, flat_map}
use Rattle.std.specs.Prelude.{◌≡◌, ℕ, List, [], ◌++◌, Option, Ok, codes, decimal}
use Rattle.semantics.specs.Canonical.{canonical_text, set_text}
use Rattle.semantics.specs.Columns.{Field, schema_of}
use Rattle.semantics.specs.Faults.{query_faults}
use Rattle.semantics.specs.Reading.{Derives}
use Rattle.semantics.specs.Sets.{sets_of}
use Rattle.semantics.specs.Syntax.{Query}

-- A grouping set on a line: its index, and its columns.
abbrev pub set_line : List Field → ℕ × List ℕ → List ℕ
set_line fields set = decimal set.0 ++ codes ": " ++ set_text fields set.1 ++ codes "\n"

-- The canonical text of the query on a line, and then a line for each of its grouping sets, with
-- indexes from 0.
abbrev pub explanation : List Field → Query → List ℕ
explanation fields query =
    canonical_text query ++ codes "\n"
    ++ flat_map (set_line fields) (enumerate_from 0 (sets_of fields query))

-- The columns and the query of two texts are good: the query is one that its text derives, and
-- nothing is wrong with it under the columns.
pub record IsAnswerable (columns query : List ℕ) : Type 0 where
  pub fields : List Field
  pub form : Query
  pub schema : schema_of columns ≡ Ok fields
  pub derived : Derives query form
  pub faultless : query_faults fields form ≡ []

-- They are good, and the known bytes grew by the explanation of the query.
pub record Explains (columns query : List ℕ) (old new : Option (List ℕ)) : Type 0 where
  pub answerable : IsAnswerable columns query
  pub written : Appends old new (explanation answerable.fields answerable.form)
