-- What the private functions of this crate read in front of a text, one definition for each
-- function, as it computes it. No public contract rests on this file: what a text spells is said in
-- Spelling.
use Rattle.std.specs.Prelude.{ℕ, ℤ, pos, List, ◌∷◌, take, drop, Option, Some, None, Bool, true, false, ◌==◌, ◌||◌, ◌^◌, nat_le, nat_lt, cond, [], ◌<◌}
use Rattle.std.specs.List.{prefix_len}
use Rattle.std.specs.Char.{is_ascii_digit}
use Rattle.std.specs.Str.Parse.{digits_value}
use Rattle.std.proofs.Math.IntN.{neg_ℤ}
use Rattle.semantics.specs.declared.token.Token.{Token}
use Rattle.semantics.specs.declared.token.Token.TheVariants as tokens
use Rattle.semantics.specs.declared.token.Sign.{Sign}
use Rattle.semantics.specs.declared.token.Sign.TheVariants as s
use Rattle.query_lexer.specs.Options.{◌>>=◌, choose}
use Rattle.semantics.specs.Words.{begins_word, continues_word, reserved_word}
use Rattle.semantics.specs.Tokens.{begins_with}

-- What stands behind this byte in front.
abbrev pub behind : ℕ → List ℕ → Option (List ℕ)
behind c [] = None
behind c (b ∷ bs) = cond (b == c) (Some bs) None

-- What stands behind white space in front.
abbrev pub after_space : List ℕ → Option (List ℕ)
after_space bs = choose (behind 32 bs) (choose (behind 9 bs) (choose (behind 10 bs) (behind 13 bs) (λ r. Some r)) (λ r. Some r)) (λ r. Some r)

-- The sign that begins with `<`, from behind it on.
unfoldable pub sign_behind_less : List ℕ → Sign × List ℕ
sign_behind_less bs = choose (behind 61 bs) (choose (behind 62 bs) (s.Less, bs) (λ r. (s.NotEqual, r))) (λ r. (s.LessOrEqual, r))

-- The sign that begins with `>`, from behind it on.
unfoldable pub sign_behind_greater : List ℕ → Sign × List ℕ
sign_behind_greater bs = choose (behind 61 bs) (s.Greater, bs) (λ r. (s.GreaterOrEqual, r))

-- A sign that begins with `<` or `>`.
unfoldable pub order_at : List ℕ → Option (Sign × List ℕ)
order_at bs = choose (behind 60 bs) (choose (behind 62 bs) None (λ r. Some (sign_behind_greater r))) (λ r. Some (sign_behind_less r))

-- The sign in front.
unfoldable pub sign_at : List ℕ → Option (Sign × List ℕ)
sign_at bs =
    choose (behind 40 bs)
    (choose (behind 41 bs)
    (choose (behind 44 bs)
    (choose (behind 42 bs)
    (choose (behind 61 bs)
    (order_at bs)
    (λ r. Some (s.Equal, r)))
    (λ r. Some (s.Star, r)))
    (λ r. Some (s.Comma, r)))
    (λ r. Some (s.Close, r)))
    (λ r. Some (s.Open, r))

-- A reserved word, else a name.
abbrev pub word_of : List ℕ → Token
word_of word = choose (reserved_word word) (tokens.Name word) (λ w. tokens.Word w)

-- The longest word in front.
abbrev pub word_at : List ℕ → Token × List ℕ
word_at bs = (word_of (take (prefix_len continues_word bs) bs), drop (prefix_len continues_word bs) bs)

-- What is quoted, from behind its first quote on, and what stands behind its last quote.
unfoldable pub quoted_at : ℕ → List ℕ → Option (List ℕ × List ℕ)
quoted_at q [] = None
quoted_at q (b ∷ []) = cond (b == q) (Some ([], [])) None
quoted_at q (b ∷ c ∷ bs) =
    cond (b == q)
    (cond (c == q) (quoted_at q bs >>= λ x. Some (q ∷ x.0, x.1)) (Some ([], c ∷ bs)))
    (quoted_at q (c ∷ bs) >>= λ x. Some (b ∷ x.0, x.1))

-- A quoted name has one byte at least.
abbrev pub name_of : List ℕ → Option Token
name_of [] = None
name_of (b ∷ bs) = Some (tokens.Name (b ∷ bs))

-- A quoted name, from behind its first quote on.
unfoldable pub name_behind : List ℕ → Option (Token × List ℕ)
name_behind bs = quoted_at 34 bs >>= λ x. name_of x.0 >>= λ k. Some (k, x.1)

-- A text, from behind its first quote on.
unfoldable pub text_behind : List ℕ → Option (Token × List ℕ)
text_behind bs = quoted_at 39 bs >>= λ x. Some (tokens.Text x.0, x.1)

-- Digits, one at least, that no word follows.
unfoldable pub digits_at : List ℕ → Option (List ℕ × List ℕ)
digits_at bs =
    cond ((prefix_len is_ascii_digit bs == 0) || begins_with begins_word (drop (prefix_len is_ascii_digit bs) bs))
    None
    (Some (take (prefix_len is_ascii_digit bs) bs, drop (prefix_len is_ascii_digit bs) bs))

-- The number of 64 bits that has this size, behind a minus or none.
unfoldable pub number_of : Bool → ℕ → Option ℤ
number_of minus n = cond minus (cond (nat_le n (2 ^ 63)) (Some (neg_ℤ (pos n))) None) (cond (nat_lt n (2 ^ 63)) (Some (pos n)) None)

-- A whole number, behind its minus or with none.
unfoldable pub number_behind : Bool → List ℕ → Option (Token × List ℕ)
number_behind minus bs = digits_at bs >>= λ x. number_of minus (digits_value 10 x.0) >>= λ i. Some (tokens.Integer i, x.1)

-- A whole number in front.
unfoldable pub number_at : List ℕ → Option (Token × List ℕ)
number_at bs = choose (behind 45 bs) (number_behind false bs) (λ r. number_behind true r)

-- What is quoted or a whole number in front.
unfoldable pub other_at : List ℕ → Option (Token × List ℕ)
other_at bs = choose (behind 34 bs) (choose (behind 39 bs) (number_at bs) (λ r. text_behind r)) (λ r. name_behind r)

-- The token in front.
unfoldable pub token_at : List ℕ → Option (Token × List ℕ)
token_at bs = cond (begins_with begins_word bs) (Some (word_at bs)) (choose (sign_at bs) (other_at bs) (λ x. Some (tokens.Sign x.0, x.1)))

-- a character of ASCII, which is one byte
abbrev pub IsAscii : ℕ → Type 0
IsAscii c = c < 128
