-- A token where it may stand, by the rules of commas and colons.
use Rattle.std.proofs.Common.{◌≡◌, ℕ, Bool, true, false, List, ◌∷◌, refl, ap, ◌∙◌}
use Rattle.json.specs.Token.{Token}
use Rattle.json.specs.Lex.{Lexeme, token, comma, colon, Place, fresh, after_value, after_comma, after_key, begins_colon, if_allowed, may_begin, place_token, punctuate}

pub punctuate-token : (place : Place) (t : Token) (ls : List Lexeme) → punctuate place (token t ∷ ls) ≡ place_token place t (begins_colon ls) (λ next. punctuate next ls)
unfolding punctuate
punctuate-token fresh t ls = refl
punctuate-token after_value t ls = refl
punctuate-token after_comma t ls = refl
punctuate-token after_key t ls = refl

-- the token is let through
pub let_through : (test : Bool) (t : Token) (next : Place) (ls : List Lexeme) → test ≡ true → if_allowed test t (λ p. punctuate p ls) next ≡ t ∷ punctuate next ls
let_through test t next ls e = ap (λ b. if_allowed b t (λ p. punctuate p ls) next) e

-- a string that is no name
pub placed-string : (place : Place) (bytes : List ℕ) (ls : List Lexeme) → begins_colon ls ≡ false → may_begin place ≡ true → punctuate place (token (Token.string bytes) ∷ ls) ≡ Token.string bytes ∷ punctuate after_value ls
placed-string place bytes ls no_name may =
    punctuate-token place (Token.string bytes) ls ∙ ap (λ b. place_token place (Token.string bytes) b (λ next. punctuate next ls)) no_name ∙ let_through (may_begin place) (Token.string bytes) after_value ls may

-- a name with its colon
pub placed-name : (place : Place) (bytes : List ℕ) (ls : List Lexeme) → may_begin place ≡ true → punctuate place (token (Token.string bytes) ∷ colon ∷ ls) ≡ Token.key bytes ∷ punctuate fresh ls
unfolding punctuate
placed-name place bytes ls may = punctuate-token place (Token.string bytes) (colon ∷ ls) ∙ let_through (may_begin place) (Token.key bytes) after_key (colon ∷ ls) may

pub placed-comma : (ls : List Lexeme) → punctuate after_value (comma ∷ ls) ≡ punctuate after_comma ls
unfolding punctuate
placed-comma ls = refl
