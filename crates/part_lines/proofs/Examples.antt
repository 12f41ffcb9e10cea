-- The definitions, computed on examples.
use Rattle.std.proofs.Common.{◌≡◌, ◌^◌, ◌-◌, ◌∷◌, ◌++◌, [], List, ℕ, pos, negsuc, true, false, Some, None, refl, codes}
use Rattle.std.specs.Fmt.{digits}
use Rattle.std.specs.Str.{chars, is_utf8}
use Rattle.json.proofs.OnLiterals.{json_on_literals}
use Rattle.semantics.specs.Values.{boolean, whole, text, null}
use Rattle.part_lines.specs.LineValues.{line_value}
use Rattle.semantics.specs.Parts.{line_of, text_of}

-- ---- texts

-- a quote, a backslash, a line feed, the control character 1, and the character U+1F600, which has
-- four bytes
odd : List ℕ
odd = 34 ∷ 92 ∷ 10 ∷ 1 ∷ 240 ∷ 159 ∷ 152 ∷ 128 ∷ []

odd_line : List ℕ
odd_line = codes "\"\\\"\\\\\\n\\u0001" ++ 240 ∷ 159 ∷ 152 ∷ 128 ∷ 34 ∷ []

an_odd_text : line_of (text odd) ≡ odd_line ++ 10 ∷ []
unfolding json_on_literals odd odd_line
an_odd_text = refl

an_odd_line : line_value odd_line ≡ Some (text odd)
unfolding json_on_literals odd odd_line is_utf8 chars
an_odd_line = refl

-- an escape that need not be there, one with a capital, and an escape of a slash
a_letter_escaped : line_value (codes "\"\\u0041\"") ≡ None
unfolding json_on_literals is_utf8 chars
a_letter_escaped = refl

a_capital : line_value (codes "\"\\u001F\"") ≡ None
unfolding json_on_literals is_utf8 chars
a_capital = refl

a_slash : line_value (codes "\"\\/\"") ≡ None
unfolding json_on_literals is_utf8 chars
a_slash = refl

-- half a pair of surrogates, a control character as it is, and a byte that is not UTF-8
half_a_pair : line_value (codes "\"\\ud83d\"") ≡ None
unfolding json_on_literals is_utf8 chars
half_a_pair = refl

a_control_character : line_value (34 ∷ 1 ∷ 34 ∷ []) ≡ None
unfolding json_on_literals is_utf8 chars
a_control_character = refl

no_utf8 : line_value (34 ∷ 255 ∷ 34 ∷ []) ≡ None
unfolding json_on_literals is_utf8 chars
no_utf8 = refl

-- ---- whole numbers

zero_is : line_value (codes "0") ≡ Some (whole (pos 0))
unfolding json_on_literals digits
zero_is = refl

one_below : line_value (codes "-1") ≡ Some (whole (negsuc 0))
unfolding json_on_literals digits
one_below = refl

greatest : line_value (codes "170141183460469231731687303715884105727") ≡ Some (whole (pos (2 ^ 127 - 1)))
unfolding json_on_literals digits
greatest = refl

least : line_value (codes "-170141183460469231731687303715884105728") ≡ Some (whole (negsuc (2 ^ 127 - 1)))
unfolding json_on_literals digits
least = refl

one_above : line_value (codes "170141183460469231731687303715884105728") ≡ None
unfolding json_on_literals digits
one_above = refl

one_below_the_least : line_value (codes "-170141183460469231731687303715884105729") ≡ None
unfolding json_on_literals digits
one_below_the_least = refl

minus_zero : line_value (codes "-0") ≡ None
unfolding json_on_literals digits
minus_zero = refl

zero_in_front : line_value (codes "01") ≡ None
unfolding json_on_literals digits
zero_in_front = refl

a_fraction : line_value (codes "1.0") ≡ None
unfolding json_on_literals digits
a_fraction = refl

an_exponent : line_value (codes "1e3") ≡ None
unfolding json_on_literals digits
an_exponent = refl

a_plus : line_value (codes "+1") ≡ None
unfolding json_on_literals digits
a_plus = refl

-- ---- literal names

a_truth_value : line_value (codes "true") ≡ Some (boolean true)
unfolding json_on_literals
a_truth_value = refl

a_null : line_value (codes "null") ≡ Some null
unfolding json_on_literals
a_null = refl

capitals : line_value (codes "TRUE") ≡ None
unfolding json_on_literals
capitals = refl

-- ---- what is no value

empty : line_value [] ≡ None
unfolding json_on_literals
empty = refl

space_in_front : line_value (codes " 7") ≡ None
unfolding json_on_literals digits
space_in_front = refl

space_behind : line_value (codes "7 ") ≡ None
unfolding json_on_literals digits
space_behind = refl

two_values : line_value (codes "7,8") ≡ None
unfolding json_on_literals
two_values = refl

an_array : line_value (codes "[7]") ≡ None
unfolding json_on_literals
an_array = refl

-- ---- several values

some_lines : text_of (text (codes "a") ∷ null ∷ whole (pos 7) ∷ boolean false ∷ []) ≡ codes "\"a\"\nnull\n7\nfalse\n"
unfolding json_on_literals digits
some_lines = refl
