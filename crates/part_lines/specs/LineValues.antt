-- The values of lines.
use Rattle.std.specs.Option.{option_and_then}
use Rattle.std.specs.Prelude.{◌≡◌, ◌&&◌, ⊤, ℕ, List, ◌∷◌, Option, Some, None, option_map, IsTrue, Result, Ok, Err, if◌then◌else◌, []}
use Rattle.std.specs.Str.{bytes_eq}
use Rattle.std.specs.Str.Parse.{signed_digits_value}
use Rattle.std.specs.declared.alloc.AllocError.{AllocError}
use Rattle.json.specs.Lex.{tokens}
use Rattle.json.specs.Token as json
use Rattle.json.specs.Token.{Token}
use Rattle.semantics.specs.Values.{Datum, boolean, whole, text, null}
use Rattle.values.specs.Datum.{datum_of}
use Rattle.values.specs.declared.value.Value.{Value}
use Rattle.part_lines.specs.Texts.{is_storable}
use Rattle.semantics.specs.Parts.{value_text}

-- The value of a token: of a string its text, and of a number what its digits come to. (What `1.0`
-- comes to does not matter: no whole number is written so.) Brackets and names have none.
abbrev pub token_value : Token → Option Datum
token_value json.begin_object = None
token_value json.end_object = None
token_value json.begin_array = None
token_value json.end_array = None
token_value (json.key s) = None
token_value (json.string s) = Some (text s)
token_value (json.number s) = Some (whole (signed_digits_value 10 s))
token_value (json.boolean b) = Some (boolean b)
token_value json.null = Some null
token_value json.bad = None

-- The value of a JSON text (RFC 8259, section 2) by its tokens: that of the only one.
abbrev pub tokens_value : List Token → Option Datum
tokens_value [] = None
tokens_value (token ∷ []) = token_value token
tokens_value (token ∷ next ∷ more) = None

-- The value, where a program can hold it and the line is its text to the byte.
abbrev pub if_spelled : List ℕ → Datum → Option Datum
if_spelled line d = if is_storable d && bytes_eq (value_text d) line then Some d else None

-- The value of a line. A value has one spelling: a line with a space, a sign, a digit or an escape
-- that its value's text has not is the line of no value.
abbrev pub line_value : List ℕ → Option Datum
line_value line = option_and_then (if_spelled line) (tokens_value (tokens line))

-- A line is the text of a value that a program can hold.
abbrev pub IsTextOf : List ℕ → Datum → Type 0
IsTextOf line d = IsTrue (is_storable d) × (line ≡ value_text d)

-- Of a line with this value, or with none, a reader tells which; without memory it tells nothing.
abbrev pub Tells : Result (Option Value) AllocError → Option Datum → Type 0
Tells (Ok value) found = found ≡ option_map datum_of value
Tells (Err refused) found = ⊤
