-- Where a front of ASCII bytes ends, no character is cut.
use Rattle.std.proofs.Common.{eqb, eq-eqb, cond, ap, ◌≡◌, ℕ, zero, suc, ◌<◌, ◌≤◌, ◌∷◌, [], Bool, true, false, List, length, get_or, arith, IsUtf8, refl, Option, Some, None, Bor, add-one}
use Rattle.std.specs.Str.{IsCharBoundary}
use Rattle.std.specs.Prelude.{MatchOption, ◌≢◌}
use Rattle.std.specs.List.{prefix_len}
use Rattle.std.specs.Char.{is_ascii_digit}
use Rattle.std.proofs.lemmas.Str.{IsCharBoundary-after_ascii}
use Rattle.std.proofs.lemmas.Bool.{eqb-true}
use Rattle.std.proofs.lemmas.List.Sums.{prefix_len_passes, prefix_len-le-length}
use Rattle.std.proofs.lemmas.Bool.Decides.{nat_tests}
use Rattle.semantics.specs.Words.{continues_word, begins_word}
use Rattle.semantics.specs.Tokens.{begins_with}
use Rattle.query_lexer.specs.Options.{Tells}
use Rattle.query_lexer.specs.Steps.{behind}

ascii_word : (b : ℕ) → continues_word b ≡ true → b < 128
ascii_word b e = grind (arith, nat_tests)

pub ascii_digit : (b : ℕ) → is_ascii_digit b ≡ true → b < 128
ascii_digit b e = grind (arith, nat_tests)

abbrev IsAsciiTest : (ℕ → Bool) → Type 0
IsAsciiTest p = (b : ℕ) → p b ≡ true → b < 128

after_front : (p : ℕ → Bool) → IsAsciiTest p → (n : ℕ) (bs : List ℕ) → IsUtf8 bs → prefix_len p bs ≡ suc n → IsCharBoundary bs (suc n)
after_front p ascii n bs utf8 e =
    let le : prefix_len p bs ≤ length bs = prefix_len-le-length p bs in
    rw (← add-one) (IsCharBoundary-after_ascii bs n utf8 (omega arith) (ascii (get_or bs n 0) (prefix_len_passes p bs n 0 (omega arith))))

some_front : (p : ℕ → Bool) → IsAsciiTest p → (m : ℕ) (bs : List ℕ) → IsUtf8 bs → prefix_len p bs ≡ m → 0 < m → IsCharBoundary bs m
some_front p ascii zero bs utf8 e h = absurd (omega arith)
some_front p ascii (suc n) bs utf8 e h = after_front p ascii n bs utf8 e

pub cut_word : (bs : List ℕ) → IsUtf8 bs → 0 < prefix_len continues_word bs → IsCharBoundary bs (prefix_len continues_word bs)
cut_word bs utf8 h = some_front continues_word ascii_word (prefix_len continues_word bs) bs utf8 refl h

pub cut_digits : (bs : List ℕ) → IsUtf8 bs → 0 < prefix_len is_ascii_digit bs → IsCharBoundary bs (prefix_len is_ascii_digit bs)
cut_digits bs utf8 h = some_front is_ascii_digit ascii_digit (prefix_len is_ascii_digit bs) bs utf8 refl h

pub begins_goes : (b : ℕ) → begins_word b ≡ true → continues_word b ≡ true
begins_goes b e = grind (arith, nat_tests)

pub word_begins : (bs : List ℕ) → begins_with begins_word bs ≡ true → 0 < prefix_len continues_word bs
word_begins [] e = absurd cc
word_begins (b ∷ bs) e = let h = begins_goes b e in rw h (omega arith)

pub not_chosen : (t : Bool) (bs : List ℕ) → (t ≡ true → ⊥) → cond t (Some bs) None ≡ None
not_chosen true bs h = absurd (h refl)
not_chosen false bs h = refl

pub behind_is : (c : ℕ) (bs : List ℕ) (r : Option (Bor (List ℕ))) → MatchOption r ((rest : List ℕ) → bs ≢ c ∷ rest) (λ x. bs ≡ c ∷ x.now) → Tells (λ x. x.now) r (behind c bs)
behind_is c [] None h = refl
behind_is c (b ∷ bs) None h = not_chosen (eqb b c) bs (λ e. h bs (ap (λ (x : ℕ). x ∷ bs) (eqb-true b c e)))
behind_is c bs (Some x) h = rw (h, eq-eqb c c refl) refl
