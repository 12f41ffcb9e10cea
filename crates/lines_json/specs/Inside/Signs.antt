-- Signs of numbers, in ASCII.
use Rattle.std.specs.Prelude.{◌<◌, ℕ}

abbrev pub comma : ℕ
comma = 44

abbrev pub digit_zero : ℕ
digit_zero = 48

abbrev pub colon : ℕ
colon = 58

-- How many digits there are in the base of hexadecimal numbers.
abbrev pub hexadecimal : ℕ
hexadecimal = 16

-- a byte between comma and colon, among which are all that a number may begin with
abbrev pub IsBetweenCommaAndColon : ℕ → Type 0
IsBetweenCommaAndColon byte = (comma < byte) × (byte < colon)
