-- A token in front of a text is read there.
use Rattle.std.proofs.Common.{true, false, eqb, ◌≡◌, ℕ, ◌<◌, ◌≤◌, ◌^◌, List, [], ◌∷◌, ◌++◌, length, Option, Some, None, refl, ap, ◌∙◌, append_assoc, arith, ◌⊎◌, inl, inr}
use Rattle.std.proofs.lemmas.Bool.{eqb-true}
use Rattle.std.proofs.lemmas.Bool.Decides.{nat_tests}
use Rattle.std.proofs.Math.Seq.{take-append_seam, drop-append_seam}
use Rattle.std.proofs.Math.IntN.{neg_ℤ}
use Rattle.std.specs.Prelude.{pos, nat_le, nat_lt}
use Rattle.std.specs.List.{list_all}
use Rattle.std.specs.Char.{is_ascii_digit}
use Rattle.std.specs.Str.Parse.{digits_value}
use Rattle.semantics.specs.declared.token.Token.{Token}
use Rattle.semantics.specs.declared.token.Token.TheVariants as tokens
use Rattle.semantics.specs.declared.token.Sign.{Sign}
use Rattle.semantics.specs.declared.token.Sign.TheVariants as s
use Rattle.semantics.specs.Words.{begins_word, continues_word, is_word, with_quotes_doubled}
use Rattle.semantics.specs.Tokens.{begins_with, is_digits, sign_text, IsLongestSign, IsToken}
use Rattle.query_lexer.specs.Steps.{behind, sign_at, order_at, sign_behind_less, sign_behind_greater, word_of, word_at, name_behind, text_behind, digits_at, number_of, number_behind, number_at, other_at, token_at}
use Rattle.query_lexer.proofs.Cut.{begins_goes, not_chosen}
use Rattle.query_lexer.proofs.Doubling.{quoted_doubled}
use Rattle.query_lexer.proofs.Inversions.{and_both}
use Rattle.query_lexer.proofs.Fronts.{front_length, no_word_parts}

-- ---- words

word_begins : (front rest : List ℕ) → is_word front ≡ true → begins_with begins_word (front ++ rest) ≡ true
word_begins [] rest h = absurd cc
word_begins (b ∷ bs) rest h = (and_both (begins_word b) (list_all continues_word bs) h).0

word_continues : (front : List ℕ) → is_word front ≡ true → list_all continues_word front ≡ true
word_continues [] h = absurd cc
word_continues (b ∷ bs) h =
    let both = and_both (begins_word b) (list_all continues_word bs) h in
    rw (begins_goes b both.0) both.1

word_at_c : (front rest : List ℕ) → list_all continues_word front ≡ true → begins_with continues_word rest ≡ false → word_at (front ++ rest) ≡ (word_of front, rest)
word_at_c front rest h stop = rw (front_length continues_word front rest h stop, take-append_seam front rest, drop-append_seam front rest) refl

token_starts : (bs : List ℕ) → begins_with begins_word bs ≡ true → token_at bs ≡ Some (word_at bs)
unfolding token_at
token_starts bs h = rw h refl

abbrev answer : Token → List ℕ → Option (Token × List ℕ)
answer k rest = Some (k, rest)

word_c : (front rest : List ℕ) (k : Token) → is_word front ≡ true → begins_with continues_word rest ≡ false → word_of front ≡ k → token_at (front ++ rest) ≡ Some (k, rest)
word_c front rest k h stop e =
    token_starts (front ++ rest) (word_begins front rest h) ∙ (ap (λ (x : Token × List ℕ). Some x) (word_at_c front rest (word_continues front h) stop) ∙ ap (λ (j : Token). answer j rest) e)

-- ---- quotes

-- A byte that does not stand in front.
pub none_behind : (q : ℕ) (rest : List ℕ) → begins_with (λ b. eqb b q) rest ≡ false → behind q rest ≡ None
none_behind q [] e = refl
none_behind q (b ∷ bs) e = rw e refl

quote_reads : (bs : List ℕ) → token_at (34 ∷ bs) ≡ name_behind bs
unfolding token_at sign_at order_at other_at
quote_reads bs = refl

apostrophe_reads : (bs : List ℕ) → token_at (39 ∷ bs) ≡ text_behind bs
unfolding token_at sign_at order_at other_at
apostrophe_reads bs = refl

minus_reads : (bs : List ℕ) → token_at (45 ∷ bs) ≡ number_behind true bs
unfolding token_at sign_at order_at other_at number_at
minus_reads bs = refl

name_c : (first : ℕ) (others rest : List ℕ) → begins_with (λ b. eqb b 34) rest ≡ false → name_behind (with_quotes_doubled 34 (first ∷ others) ++ 34 ∷ rest) ≡ Some (tokens.Name (first ∷ others), rest)
unfolding name_behind
name_c first others rest h = rw (quoted_doubled 34 (first ∷ others) rest (none_behind 34 rest h)) refl

text_c : (content rest : List ℕ) → begins_with (λ b. eqb b 39) rest ≡ false → text_behind (with_quotes_doubled 39 content ++ 39 ∷ rest) ≡ Some (tokens.Text content, rest)
unfolding text_behind
text_c content rest h = rw (quoted_doubled 39 content rest (none_behind 39 rest h)) refl

-- ---- numbers

digits_pass : (ds : List ℕ) → is_digits ds ≡ true → list_all is_ascii_digit ds ≡ true
digits_pass [] h = absurd cc
digits_pass (d ∷ ds) h = h

digits_long : (ds : List ℕ) → is_digits ds ≡ true → eqb (length ds) 0 ≡ false
digits_long [] h = absurd cc
digits_long (d ∷ ds) h = grind (arith, nat_tests)

digits_c : (ds rest : List ℕ) → is_digits ds ≡ true → begins_with continues_word rest ≡ false → digits_at (ds ++ rest) ≡ Some (ds, rest)
unfolding digits_at
digits_c ds rest h stop =
    let parts = no_word_parts rest stop in
    rw (front_length is_ascii_digit ds rest (digits_pass ds h) parts.1, take-append_seam ds rest, drop-append_seam ds rest, digits_long ds h, parts.0) refl

is_less : (a b : ℕ) → a < b → nat_lt a b ≡ true
is_less a b h = grind (arith, nat_tests)

is_at_most : (a b : ℕ) → a ≤ b → nat_le a b ≡ true
is_at_most a b h = grind (arith, nat_tests)

plain_number_c : (ds rest : List ℕ) → is_digits ds ≡ true → begins_with continues_word rest ≡ false → digits_value 10 ds < 2 ^ 63 → number_behind false (ds ++ rest) ≡ Some (tokens.Integer (pos (digits_value 10 ds)), rest)
unfolding number_behind number_of
plain_number_c ds rest h stop fits = rw (digits_c ds rest h stop, is_less (digits_value 10 ds) (2 ^ 63) fits) refl

negative_c : (ds rest : List ℕ) → is_digits ds ≡ true → begins_with continues_word rest ≡ false → digits_value 10 ds ≤ 2 ^ 63 → number_behind true (ds ++ rest) ≡ Some (tokens.Integer (neg_ℤ (pos (digits_value 10 ds))), rest)
unfolding number_behind number_of
negative_c ds rest h stop fits = rw (digits_c ds rest h stop, is_at_most (digits_value 10 ds) (2 ^ 63) fits) refl

digit_is_not : (c d : ℕ) (bs : List ℕ) → is_ascii_digit d ≡ true → (c < 48) ⊎ (57 < c) → behind c (d ∷ bs) ≡ None
digit_is_not c d bs h away = not_chosen (eqb d c) bs (λ e. apart c d h away (eqb-true d c e)) where
  apart : (c d : ℕ) → is_ascii_digit d ≡ true → (c < 48) ⊎ (57 < c) → d ≡ c → ⊥
  apart c d h (inl k) e = grind (arith, nat_tests)
  apart c d h (inr k) e = grind (arith, nat_tests)

digit_no_word : (d : ℕ) → is_ascii_digit d ≡ true → begins_word d ≡ false
digit_no_word d h = grind (arith, nat_tests)

digit_reads : (d : ℕ) (bs : List ℕ) → is_ascii_digit d ≡ true → token_at (d ∷ bs) ≡ number_behind false (d ∷ bs)
unfolding token_at sign_at order_at other_at number_at
digit_reads d bs h =
    rw (
      digit_no_word d h,
      digit_is_not 40 d bs h (inl (omega arith)),
      digit_is_not 41 d bs h (inl (omega arith)),
      digit_is_not 44 d bs h (inl (omega arith)),
      digit_is_not 42 d bs h (inl (omega arith)),
      digit_is_not 61 d bs h (inr (omega arith)),
      digit_is_not 60 d bs h (inr (omega arith)),
      digit_is_not 62 d bs h (inr (omega arith)),
      digit_is_not 34 d bs h (inl (omega arith)),
      digit_is_not 39 d bs h (inl (omega arith)),
      digit_is_not 45 d bs h (inl (omega arith)),
    ) refl

digits_read : (ds rest : List ℕ) → is_digits ds ≡ true → token_at (ds ++ rest) ≡ number_behind false (ds ++ rest)
digits_read [] rest h = absurd cc
digits_read (d ∷ ds) rest h = digit_reads d (ds ++ rest) (and_both (is_ascii_digit d) (list_all is_ascii_digit ds) h).0

-- ---- signs

not_behind : (c : ℕ) (rest : List ℕ) → ((more : List ℕ) → rest ≡ c ∷ more → ⊥) → behind c rest ≡ None
not_behind c [] h = refl
not_behind c (b ∷ bs) h = not_chosen (eqb b c) bs (λ e. h bs (ap (λ (k : ℕ). k ∷ bs) (eqb-true b c e)))

less_c : (rest : List ℕ) → IsLongestSign s.Less rest → sign_at (60 ∷ rest) ≡ Some (s.Less, rest)
unfolding sign_at order_at sign_behind_less
less_c rest h =
    rw (
      not_behind 61 rest (λ more e. let k = h s.LessOrEqual more (ap (λ (zs : List ℕ). 60 ∷ zs) e) in omega arith),
      not_behind 62 rest (λ more e. let k = h s.NotEqual more (ap (λ (zs : List ℕ). 60 ∷ zs) e) in omega arith),
    ) refl

greater_c : (rest : List ℕ) → IsLongestSign s.Greater rest → sign_at (62 ∷ rest) ≡ Some (s.Greater, rest)
unfolding sign_at order_at sign_behind_greater
greater_c rest h = rw (not_behind 61 rest (λ more e. let k = h s.GreaterOrEqual more (ap (λ (zs : List ℕ). 62 ∷ zs) e) in omega arith)) refl

sign_c : (sign : Sign) (rest : List ℕ) → IsLongestSign sign rest → sign_at (sign_text sign ++ rest) ≡ Some (sign, rest)
unfolding sign_at order_at sign_behind_less sign_behind_greater
sign_c s.Open rest h = refl
sign_c s.Close rest h = refl
sign_c s.Comma rest h = refl
sign_c s.Star rest h = refl
sign_c s.Equal rest h = refl
sign_c s.NotEqual rest h = refl
sign_c s.Less rest h = less_c rest h
sign_c s.LessOrEqual rest h = refl
sign_c s.Greater rest h = greater_c rest h
sign_c s.GreaterOrEqual rest h = refl

sign_no_word : (sign : Sign) (rest : List ℕ) → begins_with begins_word (sign_text sign ++ rest) ≡ false
sign_no_word s.Open rest = refl
sign_no_word s.Close rest = refl
sign_no_word s.Comma rest = refl
sign_no_word s.Star rest = refl
sign_no_word s.Equal rest = refl
sign_no_word s.NotEqual rest = refl
sign_no_word s.Less rest = refl
sign_no_word s.LessOrEqual rest = refl
sign_no_word s.Greater rest = refl
sign_no_word s.GreaterOrEqual rest = refl

-- A sign in front is read as one.
sign_reads : (bs rest : List ℕ) (sign : Sign) → begins_with begins_word bs ≡ false → sign_at bs ≡ Some (sign, rest) → token_at bs ≡ Some (tokens.Sign sign, rest)
unfolding token_at
sign_reads bs rest sign h e = rw (h, e) refl

-- ---- tokens

-- A token in front of a text is read there.
pub token_c : {front rest : List ℕ} {k : Token} → IsToken front k rest → token_at (front ++ rest) ≡ Some (k, rest)
token_c (IsToken.keyword {front} {rest} {word} h e stop) = word_c front rest (tokens.Word word) h stop (rw e refl)
token_c (IsToken.name {front} {rest} h e stop) = word_c front rest (tokens.Name front) h stop (rw e refl)
token_c (IsToken.quoted_name {first} {others} {rest} stop) = ap (λ (zs : List ℕ). token_at (34 ∷ zs)) (append_assoc (with_quotes_doubled 34 (first ∷ others)) (34 ∷ []) rest) ∙ (quote_reads (with_quotes_doubled 34 (first ∷ others) ++ 34 ∷ rest) ∙ name_c first others rest stop)
token_c (IsToken.text {content} {rest} stop) = ap (λ (zs : List ℕ). token_at (39 ∷ zs)) (append_assoc (with_quotes_doubled 39 content) (39 ∷ []) rest) ∙ (apostrophe_reads (with_quotes_doubled 39 content ++ 39 ∷ rest) ∙ text_c content rest stop)
token_c (IsToken.number {digits} {rest} h fits stop) = digits_read digits rest h ∙ plain_number_c digits rest h stop fits
token_c (IsToken.negative {digits} {rest} h fits stop) = minus_reads (digits ++ rest) ∙ negative_c digits rest h stop fits
token_c (IsToken.sign {sign} {rest} h) = sign_reads (sign_text sign ++ rest) rest sign (sign_no_word sign rest) (sign_c sign rest h)

-- White space begins no token.
pub space_reads : (bs : List ℕ) → (token_at (32 ∷ bs) ≡ None) × (token_at (9 ∷ bs) ≡ None) × (token_at (10 ∷ bs) ≡ None) × (token_at (13 ∷ bs) ≡ None)
unfolding token_at sign_at order_at other_at number_at number_behind digits_at
space_reads bs = (refl, refl, refl, refl)

-- The end begins no token.
pub nil_reads : token_at [] ≡ None
unfolding token_at sign_at order_at other_at number_at number_behind digits_at
nil_reads = refl
