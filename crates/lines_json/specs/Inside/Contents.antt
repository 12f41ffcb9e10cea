-- What stands inside a string, an array or an object of a JSON text.
use Rattle.std.specs.Prelude.{◌≡◌, ℕ, Bool, ◌||◌, ◌+◌, ◌-◌, ◌<◌, ◌≤◌, List, ◌∷◌, length, drop, get_or, Option, Some}
use Rattle.std.specs.Char.{encode_utf8}
use Rattle.std.specs.List.{prefix_len}
use Rattle.json.specs.Run.{is_plain}
use Rattle.json.specs.Word.{is_operator, is_space}
use Rattle.json.specs.Text.{Within, after_backslash, code_unit, content, plain, prepend, short_escape}
use Rattle.json.specs.Token.{string}
use Rattle.json.specs.Lex.{token, colon, Mode, in_escape, in_string, lex, fresh, after_value, punctuate}
use Rattle.serde_json.specs.Data.{Items, Members}
use Rattle.lines_json.specs.Meant.{AreItems, AreMembers}
use Rattle.lines_json.specs.Standing.{lexemes}

-- This byte ends the word before it.
abbrev pub is_word_end : ℕ → Bool
is_word_end x = is_operator x || is_space x

-- The plain text from a place on ends here: before the first quote, backslash or control byte, or
-- at the end of the text.
pub record IsPlainEnd (text : List ℕ) (from stop : ℕ) : Type 0 where
  pub value : stop ≡ from + prefix_len is_plain (drop from text)
  pub within : stop ≤ length text

-- A part of a string stands in front of `rest`: it means these bytes, and the lexer passes over it.
pub record IsPart (mode : Mode) (state : Within) (text bytes rest : List ℕ) : Type 0 where
  pub means : content state text ≡ prepend bytes (content plain rest)
  pub passes : lex mode text ≡ lex in_string rest

-- Such a part stands at a place, ends with an ASCII byte before another place, and means these
-- bytes.
pub record IsPartAt (mode : Mode) (state : Within) (text : List ℕ) (at stop : ℕ) (bytes : List ℕ) : Type 0 where
  pub later : at < stop
  pub within : stop ≤ length text
  pub last : get_or text (stop - 1) 0 < 128
  pub part : IsPart mode state (drop at text) bytes (drop stop text)

-- The escape whose backslash stands before a place ends before another one, and means this
-- character.
abbrev pub IsEscapeAt : List ℕ → (at stop : ℕ) → (meant : ℕ) → Type 0
IsEscapeAt text at stop meant = IsPartAt in_escape after_backslash text at stop (encode_utf8 meant)

-- A backslash and this byte mean this character. Both are ASCII.
pub record IsShortEscape (letter meant : ℕ) : Type 0 where
  pub letter_ascii : letter < 128
  pub meant_ascii : meant < 128
  pub is : short_escape letter ≡ Some meant

-- The code unit that the four hexadecimal digits at a place spell.
abbrev pub code_unit_at : List ℕ → ℕ → Option ℕ
code_unit_at text at = code_unit (get_or text at 0) (get_or text (at + 1) 0) (get_or text (at + 2) 0) (get_or text (at + 3) 0)

-- A member's name stands at a place, with the colon behind it, and white space alone is between the
-- colon and another place.
pub record IsNameAt (text : List ℕ) (at start : ℕ) : Type 0 where
  pub later : at < start
  pub within : start ≤ length text
  pub name : List ℕ
  pub stands : lexemes text at ≡ token (string name) ∷ colon ∷ lexemes text start

-- The items of an array stand at a place, behind the opening bracket, and the closing bracket ends
-- before another place.
pub record AreItemsAt (text : List ℕ) (depth at stop : ℕ) : Type 0 where
  pub later : at < stop
  pub within : stop ≤ length text
  pub meant : Items
  pub stand : AreItems depth (punctuate fresh (lexemes text at)) meant (punctuate after_value (lexemes text stop))

-- The members of an object stand at a place, behind the opening brace, and the closing brace ends
-- before another place.
pub record AreMembersAt (text : List ℕ) (depth at stop : ℕ) : Type 0 where
  pub later : at < stop
  pub within : stop ≤ length text
  pub meant : Members
  pub stand : AreMembers depth (punctuate fresh (lexemes text at)) meant (punctuate after_value (lexemes text stop))
