-- Tokens in front of a text that continues none of them.
use Rattle.std.proofs.Common.{arith, length, ◌+◌, ◌<◌, ◌^◌, ◌≡◌, ℕ, suc, Bool, true, false, ◌||◌, List, [], ◌∷◌, ◌++◌, Some, None, refl, subst}
use Rattle.std.specs.Prelude.{ℤ, codes, ◌==◌}
use Rattle.std.proofs.Math.IntN.{pos, negsuc, neg_ℤ}
use Rattle.std.specs.List.{list_all}
use Rattle.std.specs.Int.{IsInRange}
use Rattle.std.specs.Char.{is_ascii_digit}
use Rattle.std.specs.Fmt.{decimal, signed_decimal}
use Rattle.std.specs.Str.Parse.{AllDigits}
use Rattle.std.proofs.lemmas.Bool.Decides.{nat_tests}
use Rattle.std.proofs.lemmas.Fmt.{digits_decimal, digits_value-decimal, decimal_nonempty}
use Rattle.std.proofs.lemmas.Str.Parse.{digit_from_value}
use Rattle.semantics.specs.declared.token.Token.{Token}
use Rattle.semantics.specs.declared.token.Token.TheVariants as tokens
use Rattle.semantics.specs.declared.token.Word.{Word}
use Rattle.semantics.specs.declared.token.Word.TheVariants as w
use Rattle.semantics.specs.declared.token.Sign.TheVariants as s
use Rattle.semantics.specs.Words.{continues_word, is_word, reserved_word}
use Rattle.query_lexer.specs.Words.{word_text}
use Rattle.semantics.specs.Tokens.{begins_with, is_digits, IsToken, SpellsFrom}
use Rattle.query_lexer.specs.Steps.{token_at, sign_at}
use Rattle.query_lexer.proofs.Digits.{own}
use Rattle.query_lexer.proofs.Sound.{token_s}
use Rattle.query.proofs.Good.{InRange}

-- From any byte on, the text spells these tokens.
pub record Spelled (text : List ℕ) (ks : List Token) : Type 0 where
  pub from : (n : ℕ) → (starts : List ℕ) × SpellsFrom n text ks starts

pub spelled_end : Spelled [] []
spelled_end = record { from = λ n. ([], SpellsFrom.end) }

pub spelled_space : {rest : List ℕ} {ks : List Token} → Spelled rest ks → Spelled (32 ∷ rest) ks
spelled_space s = record { from = λ n. let h = s.from (n + 1) in (h.0, SpellsFrom.space refl h.1) }

pub spelled_token : {front rest : List ℕ} {k : Token} {ks : List Token} → IsToken front k rest → Spelled rest ks → Spelled (front ++ rest) (k ∷ ks)
spelled_token {front} t s = record { from = λ n. let h = s.from (n + length front) in (n ∷ h.0, SpellsFrom.token t h.1) }

-- What is read in front of a text is spelled there.
pub spelled_read : (bs rest : List ℕ) (k : Token) {ks : List Token} → token_at bs ≡ Some (k, rest) → Spelled rest ks → Spelled bs (k ∷ ks)
spelled_read bs rest k {ks} e s = let found = token_s bs rest k e in rw found.cut (spelled_token found.is s)

-- ---- where tokens end

-- A space, a bracket, a comma or the end: no token goes on with these.
abbrev pub breaks : List ℕ → Bool
breaks [] = true
breaks (b ∷ bs) = (b == 32) || (b == 40) || (b == 41) || (b == 44)

pub no_word : (rest : List ℕ) → breaks rest ≡ true → begins_with continues_word rest ≡ false
no_word [] q = refl
no_word (b ∷ rest) q = grind (arith, nat_tests)

pub no_name_quote : (rest : List ℕ) → breaks rest ≡ true → begins_with (λ b. b == 34) rest ≡ false
no_name_quote [] q = refl
no_name_quote (b ∷ rest) q = grind (arith, nat_tests)

pub no_text_quote : (rest : List ℕ) → breaks rest ≡ true → begins_with (λ b. b == 39) rest ≡ false
no_text_quote [] q = refl
no_text_quote (b ∷ rest) q = grind (arith, nat_tests)

-- ---- reserved words

record IsReserved (x : Word) : Type 0 where
  word : is_word (word_text x) ≡ true
  found : reserved_word (word_text x) ≡ Some x

word_is : (x : Word) → IsReserved x
unfolding reserved_word
word_is w.And = record { word = refl; found = refl }
word_is w.As = record { word = refl; found = refl }
word_is w.Asc = record { word = refl; found = refl }
word_is w.Avg = record { word = refl; found = refl }
word_is w.Between = record { word = refl; found = refl }
word_is w.By = record { word = refl; found = refl }
word_is w.Count = record { word = refl; found = refl }
word_is w.Cube = record { word = refl; found = refl }
word_is w.Desc = record { word = refl; found = refl }
word_is w.Distinct = record { word = refl; found = refl }
word_is w.False = record { word = refl; found = refl }
word_is w.Filter = record { word = refl; found = refl }
word_is w.First = record { word = refl; found = refl }
word_is w.From = record { word = refl; found = refl }
word_is w.Group = record { word = refl; found = refl }
word_is w.Grouping = record { word = refl; found = refl }
word_is w.Having = record { word = refl; found = refl }
word_is w.In = record { word = refl; found = refl }
word_is w.Is = record { word = refl; found = refl }
word_is w.Last = record { word = refl; found = refl }
word_is w.Max = record { word = refl; found = refl }
word_is w.Min = record { word = refl; found = refl }
word_is w.Not = record { word = refl; found = refl }
word_is w.Null = record { word = refl; found = refl }
word_is w.Nulls = record { word = refl; found = refl }
word_is w.Or = record { word = refl; found = refl }
word_is w.Order = record { word = refl; found = refl }
word_is w.Rollup = record { word = refl; found = refl }
word_is w.Select = record { word = refl; found = refl }
word_is w.Sets = record { word = refl; found = refl }
word_is w.Sum = record { word = refl; found = refl }
word_is w.True = record { word = refl; found = refl }
word_is w.Unknown = record { word = refl; found = refl }
word_is w.Where = record { word = refl; found = refl }

pub spelled_word : (x : Word) {rest : List ℕ} {ks : List Token} → breaks rest ≡ true → Spelled rest ks
    → Spelled (word_text x ++ rest) (tokens.Word x ∷ ks)
spelled_word x {rest} q s = let h = word_is x in spelled_token (IsToken.keyword h.word h.found (no_word rest q)) s

lines_is : (is_word (codes "lines") ≡ true) × (reserved_word (codes "lines") ≡ None)
unfolding reserved_word
lines_is = (refl, refl)

pub spelled_lines : {rest : List ℕ} {ks : List Token} → breaks rest ≡ true → Spelled rest ks
    → Spelled (codes "lines" ++ rest) (tokens.Name (codes "lines") ∷ ks)
spelled_lines {rest} q s = spelled_token (IsToken.name lines_is.0 lines_is.1 (no_word rest q)) s

-- ---- numbers

is_digit : (b : ℕ) → IsInRange 48 57 b → is_ascii_digit b ≡ true
is_digit b h = grind (arith, nat_tests)

all_digits : (ds : List ℕ) → AllDigits 10 ds → list_all is_ascii_digit ds ≡ true
all_digits [] h = refl
all_digits (b ∷ ds) h = rw (is_digit b (digit_from_value b h.0)) (all_digits ds h.1)

some_digits : (ds : List ℕ) → AllDigits 10 ds → 0 < length ds → is_digits ds ≡ true
some_digits [] h some = absurd (omega arith)
some_digits (b ∷ ds) h some = rw (is_digit b (digit_from_value b h.0)) (all_digits ds h.1)

decimal_digits : (n : ℕ) → n < 2 ^ 64 → is_digits (decimal n) ≡ true
decimal_digits n h = some_digits (decimal n) (digits_decimal own n h) (decimal_nonempty n h)

plain_is : (n : ℕ) (rest : List ℕ) → n < 2 ^ 63 → breaks rest ≡ true → IsToken (decimal n) (tokens.Integer (pos n)) rest
plain_is n rest h q =
    let e = digits_value-decimal own n (omega arith) in
    let is = IsToken.number (decimal_digits n (omega arith)) (rw e h) (no_word rest q) in
    subst (λ m. IsToken (decimal n) (tokens.Integer (pos m)) rest) e is

negative_is : (n : ℕ) (rest : List ℕ) → n < 2 ^ 63 → breaks rest ≡ true → IsToken (45 ∷ decimal (suc n)) (tokens.Integer (negsuc n)) rest
negative_is n rest h q =
    let e = digits_value-decimal own (suc n) (omega arith) in
    let is = IsToken.negative (decimal_digits (suc n) (omega arith)) (rw e (omega arith)) (no_word rest q) in
    subst (λ m. IsToken (45 ∷ decimal (suc n)) (tokens.Integer (neg_ℤ (pos m))) rest) e is

integer_is : (i : ℤ) (rest : List ℕ) → InRange i → breaks rest ≡ true → IsToken (signed_decimal i) (tokens.Integer i) rest
integer_is (pos n) rest h q = plain_is n rest h q
integer_is (negsuc n) rest h q = negative_is n rest h q

pub spelled_integer : (i : ℤ) {rest : List ℕ} {ks : List Token} → InRange i → breaks rest ≡ true → Spelled rest ks
    → Spelled (signed_decimal i ++ rest) (tokens.Integer i ∷ ks)
spelled_integer i {rest} h q s = spelled_token (integer_is i rest h q) s

-- ---- signs

pub spelled_open : {rest : List ℕ} {ks : List Token} → Spelled rest ks → Spelled (40 ∷ rest) (tokens.Sign s.Open ∷ ks)
unfolding token_at sign_at
spelled_open {rest} k = spelled_read (40 ∷ rest) rest (tokens.Sign s.Open) refl k

pub spelled_close : {rest : List ℕ} {ks : List Token} → Spelled rest ks → Spelled (41 ∷ rest) (tokens.Sign s.Close ∷ ks)
unfolding token_at sign_at
spelled_close {rest} k = spelled_read (41 ∷ rest) rest (tokens.Sign s.Close) refl k

pub spelled_comma : {rest : List ℕ} {ks : List Token} → Spelled rest ks → Spelled (44 ∷ rest) (tokens.Sign s.Comma ∷ ks)
unfolding token_at sign_at
spelled_comma {rest} k = spelled_read (44 ∷ rest) rest (tokens.Sign s.Comma) refl k

pub spelled_star : {rest : List ℕ} {ks : List Token} → Spelled rest ks → Spelled (42 ∷ rest) (tokens.Sign s.Star ∷ ks)
unfolding token_at sign_at
spelled_star {rest} k = spelled_read (42 ∷ rest) rest (tokens.Sign s.Star) refl k
