-- The members of an object at a place of a line, and what the columns take of them.
use Rattle.std.specs.Prelude.{◌≡◌, ℕ, ◌<◌, ◌≤◌, List, ◌∷◌, length, map, Some}
use Rattle.json.specs.Token.{string}
use Rattle.json.specs.Lex.{token, colon, fresh, after_value, punctuate}
use Rattle.serde_json.specs.Data.{Members, put}
use Rattle.lines_json.specs.Meant.{AreMembers}
use Rattle.lines_json.specs.Standing.{IsValueAt, lexemes}
use Rattle.values.specs.declared.schema.Column.{Column}
use Rattle.values.specs.declared.value.Value.{Value}
use Rattle.values.specs.Datum.{datum_of, data_of}
use Rattle.values.specs.Schema.{fields_of}
use Rattle.semantics.specs.declared.kind.Kind.{Kind}
use Rattle.semantics.specs.Records.{data_taken, datum_taken}

-- The values are what the columns take of these members.
abbrev pub AreTaken : List Column → List Value → Members → Type 0
AreTaken columns values found = map (λ d. Some d) (data_of values) ≡ data_taken (fields_of columns) found

-- The name of a member stands at a place, and behind its colon the value begins at `start`.
pub record IsNameAt (text : List ℕ) (at start : ℕ) (name : List ℕ) : Type 0 where
  pub later : at < start
  pub within : start ≤ length text
  pub stands : lexemes text at ≡ token (string name) ∷ colon ∷ lexemes text start

-- A value stands at a place, of which a column of this type takes `v`.
pub record IsTakenAt (text : List ℕ) (kind : Kind) (at stop : ℕ) (v : Value) : Type 0 where
  pub value : IsValueAt text 126 at stop
  pub taken : datum_taken kind value.meant ≡ Some (datum_of v)

-- A member stands at a place, and by it the values that the columns took before become `new`.
pub record IsMemberAt (text : List ℕ) (at stop : ℕ) (columns : List Column) (old new : List Value) : Type 0 where
  pub start : ℕ
  pub name : List ℕ
  pub named : IsNameAt text at start name
  pub value : IsValueAt text 126 start stop
  pub takes : (found : Members) → AreTaken columns old found → AreTaken columns new (put name value.meant found)

-- The members of an object stand from behind its brace on up to `stop`, behind the brace that
-- closes it, and the columns take these values of them.
pub record AreMembersAt (text : List ℕ) (from stop : ℕ) (columns : List Column) (values : List Value) : Type 0 where
  pub within : stop ≤ length text
  pub found : Members
  pub stand : AreMembers 126 (punctuate fresh (lexemes text from)) found (punctuate after_value (lexemes text stop))
  pub taken : AreTaken columns values found
