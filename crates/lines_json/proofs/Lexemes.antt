-- The lexemes of a text from a place on, one by one.
use Rattle.std.proofs.Common.{◌≡◌, ℕ, ◌+◌, ◌<◌, true, false, Bool, ◌==◌, List, ◌∷◌, length, drop, get_or, ◌⊎◌, inl, inr, refl, sym, ap, ◌∙◌, subst, lt_of_not-le}
use Rattle.std.proofs.lemmas.List.{drop_more, get_or_past}
use Rattle.std.proofs.lemmas.Bool.{eq-eqb, eqb-true, or_cases, true≢false}
use Rattle.json.specs.Token.{string}
use Rattle.json.specs.Word.{is_space}
use Rattle.json.specs.Lex.{token, operator, space, class, operator_lexeme, string_token, between, in_string, lex_byte, lex}
use Rattle.lines_json.specs.Standing.{IsStringOf, lexemes}

-- what is no space stands before the end
pub before_end : (text : List ℕ) (at x : ℕ) → get_or text at 32 ≡ x → (x == 32) ≡ false → at < length text
before_end text at x e other = lt_of_not-le (λ past. true≢false (sym (eq-eqb x 32 (sym e ∙ get_or_past text at 32 past)) ∙ other))

-- ---- white space

-- the last of several tests, and those before it
last_or : (P : ℕ → Type 0) (x c : ℕ) (earlier : Bool) → P c → (earlier ≡ true → P x) → (earlier ≡ true) ⊎ ((x == c) ≡ true) → P x
last_or P x c earlier here before (inl e) = before e
last_or P x c earlier here before (inr e) = subst P (sym (eqb-true x c e)) here

class-space : (x : ℕ) → is_space x ≡ true → class x ≡ space
class-space x h =
    let P = λ (y : ℕ). class y ≡ space in
    last_or P x 13 _ refl (λ i. last_or P x 10 _ refl (λ j. last_or P x 9 _ refl (λ e. subst P (sym (eqb-true x 32 e)) refl) (or_cases _ _ j)) (or_cases _ _ i)) (or_cases _ _ h)

pub lexemes-space : (text : List ℕ) (at : ℕ) → at < length text → is_space (get_or text at 32) ≡ true → lexemes text at ≡ lexemes text (at + 1)
unfolding lex
lexemes-space text at below h =
    let rest = drop (at + 1) text in
    ap (lex between) (drop_more text at 32 below) ∙ ap (λ kind. lex_byte between kind (get_or text at 32) rest (λ next. lex next rest)) (class-space (get_or text at 32) h)

-- ---- brackets, braces, commas and colons

pub lexemes-operator : (text : List ℕ) (at x : ℕ) → class x ≡ operator → (x == 32) ≡ false → get_or text at 32 ≡ x → lexemes text at ≡ operator_lexeme x ∷ lexemes text (at + 1)
unfolding lex
lexemes-operator text at x kind other e =
    let rest = drop (at + 1) text in
    ap (lex between) (drop_more text at 32 (before_end text at x e other) ∙ ap (λ y. y ∷ rest) e) ∙ ap (λ k. lex_byte between k x rest (λ next. lex next rest)) kind

-- ---- strings

pub lexemes-string : (text : List ℕ) (at quote : ℕ) (bytes : List ℕ) → get_or text at 32 ≡ 34 → IsStringOf text (at + 1) quote bytes → lexemes text at ≡ token (string bytes) ∷ lexemes text (quote + 1)
unfolding lex
lexemes-string text at quote bytes e s =
    let rest = drop (at + 1) text in
    let below : at < length text = before_end text at 34 e refl in
    ap (lex between) (drop_more text at 32 below ∙ ap (λ y. y ∷ rest) e) ∙ ap (λ o. token (string_token o) ∷ lex in_string rest) s.means ∙ ap (λ ls. token (string bytes) ∷ ls) s.rest

pub lex-closing_quote : (text : List ℕ) (at : ℕ) → get_or text at 32 ≡ 34 → lex in_string (drop at text) ≡ lexemes text (at + 1)
unfolding lex
lex-closing_quote text at e =
    let below : at < length text = before_end text at 34 e refl in
    ap (lex in_string) (drop_more text at 32 below ∙ ap (λ y. y ∷ drop (at + 1) text) e)
