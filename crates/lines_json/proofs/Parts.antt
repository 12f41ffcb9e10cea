-- The parts of a string: plain text and escapes.
use Rattle.std.proofs.Common.{◌≡◌, ℕ, suc, ◌+◌, ◌*◌, ◌<◌, Bool, true, false, cond, ◌&&◌, ◌||◌, ◌==◌, nat_lt, List, [], ◌∷◌, ◌++◌, take, drop, Option, Some, None, option_and_then, refl, sym, ap, ◌∙◌, arith, append_assoc, subst, lt_of_not-le, ◌≤◌}
use Rattle.std.proofs.lemmas.Bool.{ne_eqb, le-ltb, and_from, and_parts, eqb-true, not-true, or_parts, false_from_ne_true, ltb-true, lt-ltb, or_from, not_from_false, false≢true}
use Rattle.std.proofs.lemmas.Option.{cond_some, none-some}
use Rattle.std.specs.List.{prefix_len}
use Rattle.std.specs.Char.{digit_value, encode_utf8, is_digit}
use Rattle.json.specs.Text.{Within, code_unit, short_escape, is_high_surrogate, is_low_surrogate, surrogate_pair, plain, after_backslash, after_u, after_high, prepend, content}
use Rattle.json.specs.Word.{is_operator, is_space}
use Rattle.json.specs.Lex.{quote, backslash, operator, space, other, Lexeme, Mode, in_escape, in_string, lex_byte, lex}
use Rattle.json.specs.Run.{is_plain}
use Rattle.lines_json.specs.Inside.Contents.{IsPart}

-- ---- nothing, and one part behind another

prepend-nil : (means : Option (List ℕ)) → means ≡ prepend [] means
prepend-nil None = refl
prepend-nil (Some bytes) = refl

prepend-prepend : (a b : List ℕ) (means : Option (List ℕ)) → prepend a (prepend b means) ≡ prepend (a ++ b) means
prepend-prepend a b None = refl
prepend-prepend a b (Some bytes) = rw append_assoc

pub no_part : (text : List ℕ) → IsPart in_string plain text [] text
no_part text = record { means = prepend-nil (content plain text); passes = refl }

pub two_parts : (mode : Mode) (state : Within) (text a middle b rest : List ℕ) → IsPart mode state text a middle → IsPart in_string plain middle b rest → IsPart mode state text (a ++ b) rest
two_parts mode state text a middle b rest first second = record {
  means = first.means ∙ ap (prepend a) second.means ∙ prepend-prepend a b (content plain rest);
  passes = first.passes ∙ second.passes;
}

-- ---- plain text

-- within a string an operator or a space is a byte like others
passes_any : (o s : Bool) (x : ℕ) (t : List ℕ) (k : Mode → List Lexeme) → lex_byte in_string (cond o operator (cond s space other)) x t k ≡ k in_string
passes_any true s x t k = refl
passes_any false true x t k = refl
passes_any false false x t k = refl

plain_byte : (x : ℕ) (t : List ℕ) → is_plain x ≡ true → IsPart in_string plain (x ∷ t) (x ∷ []) t
unfolding content lex
plain_byte x t h =
    let tests = or_parts ((x == 34) || (x == 92)) (nat_lt x 32) (not-true _ h) in
    let special = or_parts (x == 34) (x == 92) tests.0 in
    record {
      means = λ i. cond (special.0 i) (Some []) (cond (special.1 i) (content after_backslash t) (cond (tests.1 i) None (prepend (x ∷ []) (content plain t))));
      passes =
          (λ i. lex_byte in_string (cond (special.0 i) quote (cond (special.1 i) backslash (cond (is_operator x) operator (cond (is_space x) space other)))) x t (λ next. lex next t))
          ∙ passes_any (is_operator x) (is_space x) x t (λ next. lex next t);
    }

-- a byte more, if it is plain
longer_part : (b : Bool) (x : ℕ) (t : List ℕ) (n : ℕ) → is_plain x ≡ b → IsPart in_string plain t (take n t) (drop n t)
    → IsPart in_string plain (x ∷ t) (take (cond b (1 + n) 0) (x ∷ t)) (drop (cond b (1 + n) 0) (x ∷ t))
longer_part false x t n e p = no_part (x ∷ t)
longer_part true x t n e p =
    let next : suc n ≡ 1 + n = omega arith in
    let both : IsPart in_string plain (x ∷ t) (take (suc n) (x ∷ t)) (drop (suc n) (x ∷ t)) = two_parts in_string plain (x ∷ t) (x ∷ []) t (take n t) (drop n t) (plain_byte x t e) p in
    subst (λ k. IsPart in_string plain (x ∷ t) (take k (x ∷ t)) (drop k (x ∷ t))) next both

pub plain_part : (t : List ℕ) → IsPart in_string plain t (take (prefix_len is_plain t) t) (drop (prefix_len is_plain t) t)
plain_part [] = no_part []
plain_part (x ∷ t) = longer_part (is_plain x) x t (prefix_len is_plain t) refl (plain_part t)

-- ---- escapes

-- behind a backslash
pub behind_backslash : (t bytes rest : List ℕ) → IsPart in_escape after_backslash t bytes rest → IsPart in_string plain (92 ∷ t) bytes rest
unfolding content lex
behind_backslash t bytes rest p = record { means = p.means; passes = p.passes }

-- a byte of which no short escape is made is another one
is_no_escape : (x y c : ℕ) → short_escape x ≡ Some c → short_escape y ≡ None → (x == y) ≡ false
is_no_escape x y c some none = ne_eqb x y (λ e. none-some c (sym none ∙ ap short_escape (sym e) ∙ some))

pub is_no_space : (x c : ℕ) → short_escape x ≡ Some c → (x == 32) ≡ false
unfolding short_escape
is_no_space x c is = is_no_escape x 32 c is refl

pub is_no_u : (x c : ℕ) → short_escape x ≡ Some c → (x == 117) ≡ false
unfolding short_escape
is_no_u x c is = is_no_escape x 117 c is refl

pub letter_part : (x c : ℕ) (t : List ℕ) → (x == 117) ≡ false → short_escape x ≡ Some c → IsPart in_escape after_backslash (x ∷ t) (c ∷ []) t
unfolding content lex
letter_part x c t other_letter e = record {
  means = (λ i. cond (other_letter i) (content after_u t) (option_and_then (λ b. prepend (b ∷ []) (content plain t)) (short_escape x))) ∙ ap (option_and_then (λ b. prepend (b ∷ []) (content plain t))) e;
  passes = refl;
}

-- behind `\u`
pub behind_u : (t bytes rest : List ℕ) → IsPart in_string after_u t bytes rest → IsPart in_escape after_backslash (117 ∷ t) bytes rest
unfolding content lex
behind_u t bytes rest p = record { means = p.means; passes = p.passes }

below_digits : (x : ℕ) → x < 48 → is_digit x 16 ≡ false
below_digits x low = rw (lt-ltb x 48 low)

above_digits : (x : ℕ) → 128 ≤ x → is_digit x 16 ≡ false
above_digits x high = rw (le-ltb x 48 (omega arith), le-ltb x 58 (omega arith), le-ltb x 65 (omega arith), le-ltb x 91 (omega arith), le-ltb x 97 (omega arith), le-ltb x 123 (omega arith))

-- a hexadecimal digit is plain text
hex-plain : (x : ℕ) → is_digit x 16 ≡ true → is_plain x ≡ true
hex-plain x h = not_from_false _ (or_from _ _ (or_from _ _ (is_no 34 refl) (is_no 92 refl)) (false_from_ne_true _ (λ e. false≢true (sym (below_digits x (omega (arith, ltb-true x 32 e))) ∙ h))))
  where
    is_no : (c : ℕ) → is_digit c 16 ≡ false → (x == c) ≡ false
    is_no c none = false_from_ne_true (x == c) (λ e. false≢true (sym none ∙ ap (λ y. is_digit y 16) (sym (eqb-true x c e)) ∙ h))

lex-digit : (x : ℕ) (t : List ℕ) → is_digit x 16 ≡ true → lex in_string (x ∷ t) ≡ lex in_string t
lex-digit x t h = let p = plain_byte x t (hex-plain x h) in p.passes

hex-ascii : (x : ℕ) → is_digit x 16 ≡ true → x < 128
hex-ascii x h = lt_of_not-le (λ high. false≢true (sym (above_digits x high) ∙ h))

-- the bytes that spell a code unit are hexadecimal digits
record AreHexDigits (a b c d : ℕ) : Type 0 where
  first : is_digit a 16 ≡ true
  second : is_digit b 16 ≡ true
  third : is_digit c 16 ≡ true
  fourth : is_digit d 16 ≡ true

hex_digits : (a b c d unit : ℕ) → code_unit a b c d ≡ Some unit → AreHexDigits a b c d
unfolding code_unit
hex_digits a b c d unit e =
    let spelt = cond_some (is_digit a 16 && is_digit b 16 && is_digit c 16 && is_digit d 16) (digit_value a * 4096 + digit_value b * 256 + digit_value c * 16 + digit_value d) unit e in
    let all = and_parts (is_digit a 16 && is_digit b 16 && is_digit c 16) (is_digit d 16) spelt.0 in
    let three = and_parts (is_digit a 16 && is_digit b 16) (is_digit c 16) all.0 in
    let two = and_parts (is_digit a 16) (is_digit b 16) three.0 in
    record { first = two.0; second = two.1; third = three.1; fourth = all.1 }

lex-digits : (a b c d : ℕ) (t : List ℕ) (unit : ℕ) → code_unit a b c d ≡ Some unit → lex in_string (a ∷ b ∷ c ∷ d ∷ t) ≡ lex in_string t
lex-digits a b c d t unit e =
    let digits = hex_digits a b c d unit e in
    (lex-digit a (b ∷ c ∷ d ∷ t) digits.first) ∙ (lex-digit b (c ∷ d ∷ t) digits.second) ∙ (lex-digit c (d ∷ t) digits.third) ∙ (lex-digit d t digits.fourth)

pub last_digit-ascii : (a b c d unit : ℕ) → code_unit a b c d ≡ Some unit → d < 128
last_digit-ascii a b c d unit e = let digits = hex_digits a b c d unit e in hex-ascii d digits.fourth

-- four digits by their values
pub four_digits : (a b c d first second third fourth : ℕ) → is_digit a 16 ≡ true → is_digit b 16 ≡ true → is_digit c 16 ≡ true → is_digit d 16 ≡ true
    → first ≡ digit_value a → second ≡ digit_value b → third ≡ digit_value c → fourth ≡ digit_value d
    → code_unit a b c d ≡ Some (first * 4096 + second * 256 + third * 16 + fourth)
unfolding code_unit
four_digits a b c d first second third fourth ha hb hc hd ea eb ec ed =
    ap (λ test. cond test (Some (digit_value a * 4096 + digit_value b * 256 + digit_value c * 16 + digit_value d)) None) (and_from _ _ (and_from _ _ (and_from _ _ ha hb) hc) hd)
    ∙ (λ i. Some (sym ea i * 4096 + sym eb i * 256 + sym ec i * 16 + sym ed i))

module _ (a b c d : ℕ) (t : List ℕ) (unit : ℕ) (spelt : code_unit a b c d ≡ Some unit) where
  -- a code unit that is no surrogate
  pub unit_part : is_high_surrogate unit ≡ false → is_low_surrogate unit ≡ false → IsPart in_string after_u (a ∷ b ∷ c ∷ d ∷ t) (encode_utf8 unit) t
  unfolding content
  unit_part high low = record {
    means =
        ap (option_and_then (λ u. cond (is_high_surrogate u) (content (after_high u) t) (cond (is_low_surrogate u) None (prepend (encode_utf8 u) (content plain t))))) spelt
        ∙ (λ i. cond (high i) (content (after_high unit) t) (cond (low i) None (prepend (encode_utf8 unit) (content plain t))));
    passes = lex-digits a b c d t unit spelt;
  }

  -- the upper half of a pair
  pub high_part : (bytes rest : List ℕ) → is_high_surrogate unit ≡ true → IsPart in_string (after_high unit) t bytes rest → IsPart in_string after_u (a ∷ b ∷ c ∷ d ∷ t) bytes rest
  unfolding content
  high_part bytes rest high p = record {
    means =
        ap (option_and_then (λ u. cond (is_high_surrogate u) (content (after_high u) t) (cond (is_low_surrogate u) None (prepend (encode_utf8 u) (content plain t))))) spelt
        ∙ (λ i. cond (high i) (content (after_high unit) t) (cond (is_low_surrogate unit) None (prepend (encode_utf8 unit) (content plain t)))) ∙ p.means;
    passes = lex-digits a b c d t unit spelt ∙ p.passes;
  }

  -- the lower half of a pair
  pub low_part : (upper : ℕ) → is_low_surrogate unit ≡ true → IsPart in_string (after_high upper) (92 ∷ 117 ∷ a ∷ b ∷ c ∷ d ∷ t) (encode_utf8 (surrogate_pair upper unit)) t
  unfolding content lex
  low_part upper low = record {
    means =
        ap (option_and_then (λ l. cond (is_low_surrogate l) (prepend (encode_utf8 (surrogate_pair upper l)) (content plain t)) None)) spelt
        ∙ (λ i. cond (low i) (prepend (encode_utf8 (surrogate_pair upper unit)) (content plain t)) None);
    passes = lex-digits a b c d t unit spelt;
  }
