-- The definitions, computed on examples.
use Rattle.std.proofs.Common.{◌≡◌, ℕ, List, [], ◌∷◌, true, Some, None, refl, arith, codes}
use Rattle.std.proofs.lemmas.Bool.{false≢true}
use Rattle.serde_json.proofs.OnLiterals.{serde_json_on_literals}
use Rattle.json.specs.Token.{Token, boolean}
use Rattle.json.specs.Text.{content, plain}
use Rattle.json.specs.Lex.{Place, fresh, after_value, after_comma, after_key, may_begin, punctuate}
use Rattle.json.specs.Json as json
use Rattle.json.specs.Json.{value}
use Rattle.serde_json.specs.Data.{Data, array, object, number, unsigned, no_items, item, no_members, member}
use Rattle.lines_json.specs.Inside.Contents.{IsEscapeAt}
use Rattle.lines_json.specs.Meant.{IsValue}
use Rattle.lines_json.specs.Standing.{IsStringOf, IsTokenAt, IsValueAt, lexemes}

-- ---- words

a_truth_value : IsTokenAt (codes "[true]") 1 5 (boolean true)
unfolding serde_json_on_literals
a_truth_value = record { later = omega arith; within = omega arith; stands = refl }

-- ---- strings

-- a string of `a`, a line feed and `é`
a_string : IsStringOf (codes "\"a\\n\\u00e9\"") 1 10 (97 ∷ 10 ∷ 195 ∷ 169 ∷ [])
unfolding serde_json_on_literals
a_string = record { later = omega arith; within = omega arith; closing = refl; means = refl; rest = refl }

each_short_escape : content plain (codes "\\\"\\\\\\/\\b\\f\\n\\r\\t\"") ≡ Some (34 ∷ 92 ∷ 47 ∷ 8 ∷ 12 ∷ 10 ∷ 13 ∷ 9 ∷ [])
unfolding serde_json_on_literals
each_short_escape = refl

-- behind its backslash
an_escape : IsEscapeAt (codes "\"\\u00e9\"") 2 7 233
unfolding serde_json_on_literals
an_escape = record {
  later = omega arith;
  within = omega arith;
  last = omega arith;
  part = record { means = refl; passes = refl };
}

a_pair_of_surrogates : content plain (codes "\\ud83d\\ude00\"") ≡ Some (240 ∷ 159 ∷ 152 ∷ 128 ∷ [])
unfolding serde_json_on_literals
a_pair_of_surrogates = refl

a_lone_surrogate : (quote : ℕ) (bytes : List ℕ) → IsStringOf (codes "\"\\ud83d\"") 1 quote bytes → ⊥
unfolding serde_json_on_literals
a_lone_surrogate quote bytes s = let none : content plain (codes "\\ud83d\"") ≡ None = refl in cc (none, s.means)

a_control_byte : (quote : ℕ) (bytes : List ℕ) → IsStringOf (34 ∷ 9 ∷ 34 ∷ []) 1 quote bytes → ⊥
unfolding serde_json_on_literals
a_control_byte quote bytes s = let none : content plain (9 ∷ 34 ∷ []) ≡ None = refl in cc (none, s.means)

-- ---- values

nested : List ℕ
nested = codes "{\"a\\n\": [1, {}]}"

its_value : Data
its_value = object (member (97 ∷ 10 ∷ []) (array (item (number (unsigned 1)) (item (object no_members) no_items))) no_members)

its_tree : json.Json
its_tree = json.object (json.member (97 ∷ 10 ∷ []) (json.array (json.item (json.number (49 ∷ [])) (json.item (json.object json.no_members) json.no_items))) json.no_members)

nested_stands : (place : Place) → may_begin place ≡ true → IsValue 3 (punctuate place (lexemes nested 0)) its_value []
unfolding serde_json_on_literals nested its_value its_tree
nested_stands fresh may = record { tree = its_tree; parsed = refl; is = refl }
nested_stands after_value may = absurd (false≢true may)
nested_stands after_comma may = record { tree = its_tree; parsed = refl; is = refl }
nested_stands after_key may = absurd (false≢true may)

-- an object with an escape in a name, and an array in it with an object in it
a_nested_object : IsValueAt nested 3 0 16
unfolding serde_json_on_literals nested
a_nested_object = record { later = omega arith; within = omega arith; meant = its_value; stands = λ _ place may. nested_stands place may }

-- the same where one level less is allowed
a_nested_object_too_deep : (d : Data) (rest : List Token) → IsValue 2 (punctuate fresh (lexemes nested 0)) d rest → ⊥
unfolding serde_json_on_literals nested
a_nested_object_too_deep d rest v = let none : value 2 (punctuate fresh (lexemes nested 0)) ≡ None = refl in cc (none, v.parsed)

an_array_too_deep : (d : Data) (rest : List Token) → IsValue 1 (punctuate fresh (lexemes (codes "[[]]") 0)) d rest → ⊥
unfolding serde_json_on_literals
an_array_too_deep d rest v = let none : value 1 (punctuate fresh (lexemes (codes "[[]]") 0)) ≡ None = refl in cc (none, v.parsed)

a_comma_before_the_bracket : (d : Data) (rest : List Token) → IsValue 9 (punctuate fresh (lexemes (codes "[1,]") 0)) d rest → ⊥
unfolding serde_json_on_literals
a_comma_before_the_bracket d rest v = let none : value 9 (punctuate fresh (lexemes (codes "[1,]") 0)) ≡ None = refl in cc (none, v.parsed)

-- a string before a colon is a name and no value
a_name_is_no_value : (d : Data) (rest : List Token) → IsValue 9 (punctuate fresh (lexemes (codes "\"a\":1") 0)) d rest → ⊥
unfolding serde_json_on_literals
a_name_is_no_value d rest v = let none : value 9 (punctuate fresh (lexemes (codes "\"a\":1") 0)) ≡ None = refl in cc (none, v.parsed)
