-- The codes, computed on examples.
use Rattle.std.proofs.Common.{◌≡◌, ◌-◌, ◌^◌, Bool, [], ◌∷◌, pos, negsuc, true, false, refl, codes}
use Rattle.semantics.specs.Syntax.{SortKey, grouping}
use Rattle.semantics.specs.Values.{boolean, text, null}
use Rattle.sort_keys.specs.Codes.{index_code, key_code, value_code, number_code, values_code}

truth_values : values_code (boolean false ∷ boolean true ∷ []) ≡ 1 ∷ 2 ∷ []
truth_values = refl

a_text : value_code (text (codes "az")) ≡ 6 ∷ 98 ∷ 123 ∷ 0 ∷ []
a_text = refl

-- 0 is 2^63 above the least number of 64 bits, and -1 is one less
zero_is : number_code (pos 0) ≡ 4 ∷ 128 ∷ 0 ∷ 0 ∷ 0 ∷ 0 ∷ 0 ∷ 0 ∷ 0 ∷ []
zero_is = refl

one_below : number_code (negsuc 0) ≡ 4 ∷ 127 ∷ 255 ∷ 255 ∷ 255 ∷ 255 ∷ 255 ∷ 255 ∷ 255 ∷ []
one_below = refl

-- the least number of 64 bits, and the next one below it
least : number_code (negsuc (2 ^ 63 - 1)) ≡ 4 ∷ 0 ∷ 0 ∷ 0 ∷ 0 ∷ 0 ∷ 0 ∷ 0 ∷ 0 ∷ []
least = refl

below : number_code (negsuc (2 ^ 63)) ≡ 3 ∷ 127 ∷ 255 ∷ 255 ∷ 255 ∷ 255 ∷ 255 ∷ 255 ∷ 255 ∷ 127 ∷ 255 ∷ 255 ∷ 255 ∷ 255 ∷ 255 ∷ 255 ∷ 255 ∷ []
below = refl

above : number_code (pos (2 ^ 63)) ≡ 5 ∷ 0 ∷ 0 ∷ 0 ∷ 0 ∷ 0 ∷ 0 ∷ 0 ∷ 0 ∷ 128 ∷ 0 ∷ 0 ∷ 0 ∷ 0 ∷ 0 ∷ 0 ∷ 0 ∷ []
above = refl

-- ---- under keys of ORDER BY

abbrev under : Bool → Bool → SortKey
under descending nulls_first = record { expression = grouping []; descending = descending; nulls_first = nulls_first }

true_descending : key_code (under true false) (boolean true) ≡ 253 ∷ []
true_descending = refl

text_descending : key_code (under true true) (text (codes "az")) ≡ 249 ∷ 157 ∷ 132 ∷ 255 ∷ []
text_descending = refl

nulls_first : key_code (under false true) null ≡ 0 ∷ []
nulls_first = refl

-- DESC does not turn the place of NULL
nulls_last : key_code (under true false) null ≡ 255 ∷ []
nulls_last = refl

-- ---- indexes

an_index : index_code 7 ≡ 7 ∷ []
an_index = refl

long_index : index_code 300 ≡ 255 ∷ 0 ∷ 0 ∷ 0 ∷ 0 ∷ 0 ∷ 0 ∷ 1 ∷ 44 ∷ []
long_index = refl
