-- The columns of a schema text: parts `name:type`, with commas between them.
use Rattle.std.specs.List.{after_first, before_first, enumerate_from, filter_map, list_any, slice_split}
use Rattle.std.specs.Option.{is_none}
use Rattle.std.specs.Prelude.{◌==◌, ℕ, ◌+◌, nat_lt, not, List, [], ◌∷◌, length, take, map, Option, Some, None, option_map, Result, Ok, Err, codes, if◌then◌else◌}
use Rattle.std.specs.Str.{bytes_eq}
use Rattle.semantics.specs.Words.{is_word}
use Rattle.semantics.specs.declared.kind.Kind.{Kind}
use Rattle.semantics.specs.declared.schema_fault.SchemaFault.{SchemaFault}
use Rattle.semantics.specs.declared.schema_fault.SchemaFault.TheVariants.{Empty, BadName, UnknownType, RepeatedName, TooManyColumns}
use Rattle.semantics.specs.declared.kind.Kind.TheVariants as kind

-- A column: the bytes of its name, and its type.
pub record Field : Type 0 where
  pub name : List ℕ
  pub kind : Kind

-- The names of some columns.
abbrev pub names_of : List Field → List (List ℕ)
names_of fields = map (λ f. f.name) fields

-- ---- parts

-- The type of this name, if there is one.
abbrev pub kind_named : List ℕ → Option Kind
kind_named text =
    if bytes_eq text (codes "int") then Some kind.Int
    else if bytes_eq text (codes "text") then Some kind.Text
    else if bytes_eq text (codes "bool") then Some kind.Bool
    else None

-- The parts of a text between its commas.
abbrev pub parts : List ℕ → List (List ℕ)
parts text = slice_split (λ c. c == 44) text

-- What stands before the first colon of a part; all of it if there is no colon.
abbrev pub name_of : List ℕ → List ℕ
name_of part = before_first (λ c. c == 58) part

-- The type that is named after the first colon of a part; None if there is no colon or no such
-- type.
abbrev pub kind_of : List ℕ → Option Kind
kind_of part = kind_named (after_first (λ c. c == 58) part)

-- The column that a part declares, if it names a type.
abbrev pub column_of : List ℕ → Option Field
column_of part = option_map (λ k. record { name = name_of part; kind = k }) (kind_of part)

-- The fault of a part that follows parts of these names: the first of these four that it has. The
-- name of a column is any word, a reserved one too.
abbrev pub fault_of : List (List ℕ) → List ℕ → Option SchemaFault
fault_of names part =
    let number = length names + 1 in
    if nat_lt 32 number then Some TooManyColumns
    else if not (is_word (name_of part)) then Some (BadName number)
    else if is_none (kind_of part) then Some (UnknownType number)
    else if list_any (bytes_eq (name_of part)) names then Some (RepeatedName number)
    else None

-- The faults of all parts, from left to right. Each part is judged by the names of the parts
-- before it.
abbrev pub faults : List (List ℕ) → List SchemaFault
faults all = filter_map (λ p. fault_of (map name_of (take p.0 all)) p.1) (enumerate_from 0 all)

-- ---- the text

-- These columns, or the first fault if there is any.
abbrev pub unless_faulty : List SchemaFault → List Field → Result (List Field) SchemaFault
unless_faulty [] fields = Ok fields
unless_faulty (first ∷ more) fields = Err first

-- The columns of a schema text, or its first fault.
abbrev pub schema_of : List ℕ → Result (List Field) SchemaFault
schema_of [] = Err Empty
schema_of (c ∷ cs) = unless_faulty (faults (parts (c ∷ cs))) (filter_map column_of (parts (c ∷ cs)))
