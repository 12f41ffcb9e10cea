-- The parts of a number, RFC 8259, section 6, at places of a text.
use Rattle.std.specs.Prelude.{◌≡◌, ℕ, ◌+◌, ◌-◌, ◌<◌, ◌≤◌, List, length, drop, get_or, take, true, Option, Some, option_and_then}
use Rattle.std.specs.Str.Parse.{AllDigits, digits_value}
use Rattle.json.specs.Lex.{in_word, lex}
use Rattle.json.specs.Word.{after_exponent, after_fraction, after_whole}
use Rattle.lines_json.specs.Inside.Contents.{is_word_end}

-- A part of a number stands at a place and ends before another, and no byte of it ends a word.
pub record IsNumberPart (part : List ℕ → Option (List ℕ)) (text : List ℕ) (at stop : ℕ) : Type 0 where
  pub later : at ≤ stop
  pub within : stop ≤ length text
  pub parsed : part (drop at text) ≡ Some (drop stop text)
  pub passed : lex in_word (drop at text) ≡ lex in_word (drop stop text)

-- a number without its sign
abbrev pub after_unsigned : List ℕ → Option (List ℕ)
after_unsigned rest = option_and_then after_exponent (option_and_then after_fraction (after_whole rest))

-- A number of up to 18 digits stands at a place, without sign, fraction and exponent, and behind it
-- a word ends.
pub record AreDigitsAt (text : List ℕ) (from stop n : ℕ) : Type 0 where
  pub part : IsNumberPart after_unsigned text from stop
  pub some : from < stop
  pub short : stop ≤ from + 18
  pub digits : AllDigits 10 (take (stop - from) (drop from text))
  pub value : n ≡ digits_value 10 (take (stop - from) (drop from text))
  pub ends : is_word_end (get_or text stop 32) ≡ true
