-- What numbers of a JSON text are, computed on examples.
use Rattle.std.proofs.Common.{◌≡◌, [], ◌∷◌, pos, negsuc, true, Some, None, codes, is_some, option_and_then, refl}
use Rattle.json.specs.Lex.{comma, token}
use Rattle.json.specs.Token.{bad, end_array, number}
use Rattle.serde_json.specs.Find.{as_integer}
use Rattle.serde_json.specs.Read.{number_of}
use Rattle.serde_json.proofs.OnLiterals.{serde_json_on_literals}
use Rattle.lines_json.specs.Standing.{lexemes}

-- ---- where they end

ends_at_comma : lexemes (codes "[-12,3") 1 ≡ token (number (codes "-12")) ∷ comma ∷ token (number (codes "3")) ∷ []
unfolding serde_json_on_literals
ends_at_comma = refl

ends_behind_exponent : lexemes (codes "[-1.5e3]") 1 ≡ token (number (codes "-1.5e3")) ∷ token end_array ∷ []
unfolding serde_json_on_literals
ends_behind_exponent = refl

-- a zero stands before no other digit
leading_zero : lexemes (codes "01") 0 ≡ token bad ∷ []
unfolding serde_json_on_literals
leading_zero = refl

-- digits stand behind a point
point_alone : lexemes (codes "1.") 0 ≡ token bad ∷ []
unfolding serde_json_on_literals
point_alone = refl

-- a letter ends no number
letter_behind : lexemes (codes "1x") 0 ≡ token bad ∷ []
unfolding serde_json_on_literals
letter_behind = refl

-- ---- what they are

-- `-0` has a value, which is no whole number
minus_zero : is_some (number_of (codes "-0")) ≡ true
unfolding serde_json_on_literals
minus_zero = refl

minus_zero_whole : option_and_then as_integer (number_of (codes "-0")) ≡ None
unfolding serde_json_on_literals
minus_zero_whole = refl

-- a number that is too large has no value, but it is a number
too_large : number_of (codes "1e400") ≡ None
unfolding serde_json_on_literals
too_large = refl

too_large_stands : lexemes (codes "1e400") 0 ≡ token (number (codes "1e400")) ∷ []
unfolding serde_json_on_literals
too_large_stands = refl

-- a number with a fraction or an exponent is no whole number, whatever its value
with_fraction : is_some (number_of (codes "1.5")) ≡ true
unfolding serde_json_on_literals
with_fraction = refl

with_fraction_whole : option_and_then as_integer (number_of (codes "1.5")) ≡ None
unfolding serde_json_on_literals
with_fraction_whole = refl

with_exponent_whole : option_and_then as_integer (number_of (codes "1e2")) ≡ None
unfolding serde_json_on_literals
with_exponent_whole = refl

-- the least whole number of 64 bits
least : option_and_then as_integer (number_of (codes "-9223372036854775808")) ≡ Some (negsuc 9223372036854775807)
unfolding serde_json_on_literals
least = refl

-- one more than the greatest of 64 bits with a sign
above_greatest : option_and_then as_integer (number_of (codes "9223372036854775808")) ≡ Some (pos 9223372036854775808)
unfolding serde_json_on_literals
above_greatest = refl
