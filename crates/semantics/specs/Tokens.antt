-- Which tokens a text spells, and where each begins (ISO/IEC 9075-2, <token>).
use Rattle.std.proofs.Math.IntN.{neg_ℤ}
use Rattle.std.specs.Char.{is_ascii_digit}
use Rattle.std.specs.List.{list_all}
use Rattle.std.specs.Prelude.{◌≡◌, ◌≢◌, ◌<◌, ◌≤◌, ◌+◌, ◌^◌, ℕ, pos, Bool, true, false, ◌==◌, ◌||◌, ◌&&◌, Some, None, List, [], ◌∷◌, ◌++◌, length, codes}
use Rattle.std.specs.Str.Parse.{digits_value}
use Rattle.semantics.specs.Words.{is_word, continues_word, reserved_word, quoted_text}
use Rattle.semantics.specs.declared.token.Sign.{Sign}
use Rattle.semantics.specs.declared.token.Token.{Token}
use Rattle.semantics.specs.declared.token.Word.{Word}
use Rattle.semantics.specs.declared.token.Token.TheVariants as tokens
use Rattle.semantics.specs.declared.token.Sign.TheVariants as s

-- White space: space, tab, line feed and carriage return.
abbrev pub is_space : ℕ → Bool
is_space b = (b == 32) || (b == 9) || (b == 10) || (b == 13)

-- The characters of a sign.
abbrev pub sign_text : Sign → List ℕ
sign_text s.Open = codes "("
sign_text s.Close = codes ")"
sign_text s.Comma = codes ","
sign_text s.Star = codes "*"
sign_text s.Equal = codes "="
sign_text s.NotEqual = codes "<>"
sign_text s.Less = codes "<"
sign_text s.LessOrEqual = codes "<="
sign_text s.Greater = codes ">"
sign_text s.GreaterOrEqual = codes ">="

-- Whether a text begins with such a byte.
abbrev pub begins_with : (ℕ → Bool) → List ℕ → Bool
begins_with test [] = false
begins_with test (b ∷ bs) = test b

-- Whether these bytes are digits, one or more.
abbrev pub is_digits : List ℕ → Bool
is_digits [] = false
is_digits (b ∷ bs) = is_ascii_digit b && list_all is_ascii_digit bs

-- No longer sign stands in the place of this one before `rest`.
abbrev pub IsLongestSign : Sign → List ℕ → Type 0
IsLongestSign sign rest =
    (other : Sign) (behind : List ℕ) → sign_text sign ++ rest ≡ sign_text other ++ behind
    → length (sign_text other) ≤ length (sign_text sign)

-- `IsToken front k rest`: before `rest`, the bytes `front` are the token `k`. A token is as long as
-- it can be: a word before what continues no word, what is quoted before no further quote, a sign
-- before what makes no longer one. A whole number fits 64 bits, and no letter, digit or `_` follows
-- it.
pub data IsToken : List ℕ → Token → List ℕ → Type 0 where
  keyword : {front rest : List ℕ} {word : Word} → is_word front ≡ true
      → reserved_word front ≡ Some word → begins_with continues_word rest ≡ false
      → IsToken front (tokens.Word word) rest
  name : {front rest : List ℕ} → is_word front ≡ true → reserved_word front ≡ None
      → begins_with continues_word rest ≡ false → IsToken front (tokens.Name front) rest
  quoted_name : {first : ℕ} {others rest : List ℕ} → begins_with (λ b. b == 34) rest ≡ false
      → IsToken (quoted_text 34 (first ∷ others)) (tokens.Name (first ∷ others)) rest
  text : {content rest : List ℕ} → begins_with (λ b. b == 39) rest ≡ false
      → IsToken (quoted_text 39 content) (tokens.Text content) rest
  number : {digits rest : List ℕ} → is_digits digits ≡ true → digits_value 10 digits < 2 ^ 63
      → begins_with continues_word rest ≡ false
      → IsToken digits (tokens.Integer (pos (digits_value 10 digits))) rest
  negative : {digits rest : List ℕ} → is_digits digits ≡ true → digits_value 10 digits ≤ 2 ^ 63
      → begins_with continues_word rest ≡ false
      → IsToken (45 ∷ digits) (tokens.Integer (neg_ℤ (pos (digits_value 10 digits)))) rest
  sign : {sign : Sign} {rest : List ℕ} → IsLongestSign sign rest
      → IsToken (sign_text sign) (tokens.Sign sign) rest

-- From byte `n` on, a text is white space and these tokens, each with the byte where it begins.
pub data SpellsFrom : ℕ → List ℕ → List Token → List ℕ → Type 0 where
  end : {n : ℕ} → SpellsFrom n [] [] []
  space : {n b : ℕ} {bs starts : List ℕ} {ks : List Token} → is_space b ≡ true
      → SpellsFrom (n + 1) bs ks starts → SpellsFrom n (b ∷ bs) ks starts
  token : {n : ℕ} {front rest starts : List ℕ} {k : Token} {ks : List Token} → IsToken front k rest
      → SpellsFrom (n + length front) rest ks starts
      → SpellsFrom n (front ++ rest) (k ∷ ks) (n ∷ starts)

-- The text spells these tokens, which begin at these bytes.
abbrev pub Spells : List ℕ → List Token → List ℕ → Type 0
Spells bs ks starts = SpellsFrom 0 bs ks starts

-- Neither white space nor a token stands at the beginning of the text, and it is not at its end.
pub record BeginsNoToken (bs : List ℕ) : Type 0 where
  pub no_end : bs ≢ []
  pub no_space : begins_with is_space bs ≡ false
  pub no_token : (front rest : List ℕ) (k : Token) → bs ≡ front ++ rest → IsToken front k rest → ⊥

-- From byte `n` on, after white space and tokens, no token begins at byte `at`.
pub data StopsFrom : ℕ → List ℕ → ℕ → Type 0 where
  here : {n : ℕ} {bs : List ℕ} → BeginsNoToken bs → StopsFrom n bs n
  space : {n b at : ℕ} {bs : List ℕ} → is_space b ≡ true → StopsFrom (n + 1) bs at
      → StopsFrom n (b ∷ bs) at
  token : {n at : ℕ} {front rest : List ℕ} {k : Token} → IsToken front k rest
      → StopsFrom (n + length front) rest at → StopsFrom n (front ++ rest) at

-- The text spells tokens up to this byte, where no token begins.
abbrev pub StopsAt : List ℕ → ℕ → Type 0
StopsAt bs at = StopsFrom 0 bs at
