-- The names of columns.
use Rattle.std.proofs.Common.{◌≡◌, ℕ, zero, suc, List, [], ◌∷◌, map, Option, Some, None, refl, sym, ap, ◌∙◌}
use Rattle.std.proofs.lemmas.Option.{slice_get-map}
use Rattle.std.specs.Prelude.{codes, option_and_then, option_map, position, slice_get, string_bytes, unwrap_or}
use Rattle.std.specs.Str.{bytes_eq}
use Rattle.query_resolve.proofs.Places.{position-map}
use Rattle.semantics.specs.Canonical.{name_at}
use Rattle.semantics.specs.Columns.{names_of}
use Rattle.semantics.specs.Names.{kind_at}
use Rattle.semantics.specs.declared.kind.Kind.TheVariants as type
use Rattle.values.specs.Schema.{fields_of}
use Rattle.values.specs.declared.schema.Column.{Column}
use Rattle.parts.specs.ReadingParts.{bad_column, behind_front, type_at}

abbrev column_name : Column → List ℕ
column_name column = string_bytes column.name

names-of : (columns : List Column) → map column_name columns ≡ names_of (fields_of columns)
names-of [] = refl
names-of (column ∷ columns) = ap (λ names. column_name column ∷ names) (names-of columns)

place-of : (columns : List Column) (name : List ℕ) → position (λ (column : Column). bytes_eq name (string_bytes column.name)) columns ≡ position (bytes_eq name) (names_of (fields_of columns))
place-of columns name = position-map (bytes_eq name) column_name columns ∙ ap (position (bytes_eq name)) (names-of columns)

name-at : (columns : List Column) (place : ℕ) → name_at (fields_of columns) place ≡ unwrap_or (option_map column_name (slice_get columns place)) []
name-at columns place = ap (λ names. unwrap_or (slice_get names place) []) (sym (names-of columns)) ∙ ap (λ o. unwrap_or o []) (slice_get-map column_name columns place)

-- the name of a column that is there, and of one that is not
pub name-there : (columns : List Column) (place : ℕ) (column : Column) (name : List ℕ) → slice_get columns place ≡ Some column → name ≡ string_bytes column.name → name ≡ name_at (fields_of columns) place
name-there columns place column name there is = is ∙ sym (name-at columns place ∙ ap (λ o. unwrap_or (option_map column_name o) []) there)

pub name-missing : (columns : List Column) (place : ℕ) → slice_get columns place ≡ None → [] ≡ name_at (fields_of columns) place
name-missing columns place missing = sym (name-at columns place ∙ ap (λ o. unwrap_or (option_map column_name o) []) missing)

-- the place of the column whose name stands behind the words
pub place-behind : (columns : List Column) (text name : List ℕ) (place : Option ℕ) → behind_front (codes "bad value in column ") text ≡ Some name
    → place ≡ position (λ (column : Column). bytes_eq name (string_bytes column.name)) columns → place ≡ bad_column (fields_of columns) text
place-behind columns text name place behind is = is ∙ place-of columns name ∙ sym (ap (λ o. option_and_then (λ n. position (bytes_eq n) (names_of (fields_of columns))) o) behind)

-- ---- types

types-of : (columns : List Column) (place : ℕ) → kind_at (fields_of columns) place ≡ option_map (λ (column : Column). column.kind) (slice_get columns place)
types-of [] place = refl
types-of (column ∷ columns) zero = refl
types-of (column ∷ columns) (suc place) = types-of columns place

-- the type of a column that is there, and of one that is not
pub type-there : (columns : List Column) (place : ℕ) (column : Column) → slice_get columns place ≡ Some column → column.kind ≡ type_at (fields_of columns) place
type-there columns place column there = sym (ap (λ k. unwrap_or k type.Int) (types-of columns place ∙ ap (option_map (λ (c : Column). c.kind)) there))

pub type-missing : (columns : List Column) (place : ℕ) → slice_get columns place ≡ None → type.Int ≡ type_at (fields_of columns) place
type-missing columns place missing = sym (ap (λ k. unwrap_or k type.Int) (types-of columns place ∙ ap (option_map (λ (c : Column). c.kind)) missing))
