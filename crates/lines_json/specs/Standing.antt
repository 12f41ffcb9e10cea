-- What stands at a place of a JSON text, by the toolkit's lexer of RFC 8259.
use Rattle.std.specs.Prelude.{◌≡◌, ℕ, ◌+◌, ◌-◌, ◌<◌, ◌≤◌, ℤ, List, ◌∷◌, length, drop, take, get_or, true, false, Some, option_and_then}
use Rattle.json.specs.Token.{Token, number}
use Rattle.json.specs.Text.{content, plain}
use Rattle.json.specs.Word.{is_space}
use Rattle.json.specs.Lex.{Lexeme, token, between, in_string, lex, Place, after_value, may_begin, begins_colon, punctuate}
use Rattle.serde_json.specs.Data.{Data}
use Rattle.serde_json.specs.Find.{as_integer}
use Rattle.serde_json.specs.Read.{number_of}
use Rattle.lines_json.specs.Meant.{IsValue}

-- The lexemes from a place on.
abbrev pub lexemes : List ℕ → ℕ → List Lexeme
lexemes text at = lex between (drop at text)

-- A token stands at a place, and ends before another one.
pub record IsTokenAt (text : List ℕ) (at stop : ℕ) (t : Token) : Type 0 where
  pub later : at < stop
  pub within : stop ≤ length text
  pub stands : lexemes text at ≡ token t ∷ lexemes text stop

-- No such token stands at a place, but maybe behind white space that stands there.
abbrev pub IsNoTokenAt : List ℕ → ℕ → Token → Type 0
IsNoTokenAt text at t = is_space (get_or text at 32) ≡ false → (stop : ℕ) → ¬ IsTokenAt text at stop t

-- A string whose first byte stands at a place means these bytes, and the quote that closes it
-- stands at `quote`.
pub record IsStringOf (text : List ℕ) (from quote : ℕ) (bytes : List ℕ) : Type 0 where
  pub later : from ≤ quote
  pub within : quote < length text
  pub closing : get_or text quote 32 ≡ 34
  pub means : content plain (drop from text) ≡ Some bytes
  pub rest : lex in_string (drop from text) ≡ lexemes text (quote + 1)

-- a string that means what it writes: it has no escape
abbrev pub IsPlainString : List ℕ → ℕ → ℕ → Type 0
IsPlainString text from quote = IsStringOf text from quote (take (quote - from) (drop from text))

-- A number stands at a place, and it is this whole number of 64 bits.
abbrev pub IsWholeNumberAt : List ℕ → (at stop : ℕ) → ℤ → Type 0
IsWholeNumberAt text at stop n = (digits : List ℕ) × IsTokenAt text at stop (number digits) × (option_and_then as_integer (number_of digits) ≡ Some n)

-- Wherever a value may begin, one stands at a place, nests at most `depth` deep, and ends before
-- another one; unless a colon stands there, since a string before a colon is a name.
pub record IsValueAt (text : List ℕ) (depth at stop : ℕ) : Type 0 where
  pub later : at < stop
  pub within : stop ≤ length text
  pub meant : Data
  pub stands : begins_colon (lexemes text stop) ≡ false → (place : Place) → may_begin place ≡ true
      → IsValue depth (punctuate place (lexemes text at)) meant (punctuate after_value (lexemes text stop))
