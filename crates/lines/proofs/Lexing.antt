-- What the lexer of JSON answers at a place of a text, and what the rules of commas and colons make
-- of it.
use Rattle.std.proofs.Common.{◌≡◌, ℕ, ◌+◌, Bool, true, false, List, [], ◌∷◌, length, get_or, refl, ap, ◌∙◌, arith}
use Rattle.std.proofs.lemmas.List.{drop_all}
use Rattle.json.specs.Token as json
use Rattle.json.specs.Token.{Token}
use Rattle.json.specs.Lex.{Lexeme, token, between, lex, Place, fresh, after_value, begins_colon, may_begin, punctuate}
use Rattle.lines_json.specs.Standing.{IsStringOf, IsTokenAt, lexemes}
use Rattle.lines_json.proofs.Lexemes.{lexemes-string}
use Rattle.lines_json.proofs.Punctuation as punctuation
use Rattle.lines_json.proofs.Punctuation.{let_through, punctuate-token}

-- ---- lexemes

pub string-token : (text : List ℕ) (at quote : ℕ) (bytes : List ℕ) → get_or text at 32 ≡ 34 → IsStringOf text (at + 1) quote bytes → IsTokenAt text at (quote + 1) (json.string bytes)
string-token text at quote bytes opens s = record {
  later = omega (arith, s.later);
  within = omega (arith, s.within);
  stands = lexemes-string text at quote bytes opens s;
}

-- the end
pub lexed-end : (text : List ℕ) → lexemes text (length text) ≡ []
unfolding lex
lexed-end text = ap (lex between) (drop_all (length text) text (omega arith))

pub lexed-whole : (text : List ℕ) → lex between text ≡ lexemes text 0
lexed-whole text = refl

-- ---- commas and colons

-- where a value may begin, this token is one
abbrev pub IsPlaced : Token → Type 0
IsPlaced t = (place : Place) (ls : List Lexeme) → may_begin place ≡ true → begins_colon ls ≡ false → punctuate place (token t ∷ ls) ≡ t ∷ punctuate after_value ls

pub placed-string : (s : List ℕ) → IsPlaced (json.string s)
placed-string s place ls may apart = punctuation.placed-string place s ls apart may

pub placed-number : (s : List ℕ) → IsPlaced (json.number s)
placed-number s place ls may apart = punctuate-token place (json.number s) ls ∙ let_through (may_begin place) (json.number s) after_value ls may

pub placed-boolean : (b : Bool) → IsPlaced (json.boolean b)
placed-boolean b place ls may apart = punctuate-token place (json.boolean b) ls ∙ let_through (may_begin place) (json.boolean b) after_value ls may

pub placed-null : IsPlaced json.null
placed-null place ls may apart = punctuate-token place json.null ls ∙ let_through (may_begin place) json.null after_value ls may

-- the brace that opens an object
pub placed-opening : (ls : List Lexeme) → punctuate fresh (token json.begin_object ∷ ls) ≡ json.begin_object ∷ punctuate fresh ls
unfolding punctuate
placed-opening ls = refl

-- the brace that closes one, behind its members, and behind the brace that opens it
pub placed-closing : (ls : List Lexeme) → punctuate after_value (token json.end_object ∷ ls) ≡ json.end_object ∷ punctuate after_value ls
unfolding punctuate
placed-closing ls = refl

pub placed-empty : (ls : List Lexeme) → punctuate fresh (token json.end_object ∷ ls) ≡ json.end_object ∷ punctuate after_value ls
unfolding punctuate
placed-empty ls = refl

pub placed-end : punctuate after_value [] ≡ []
unfolding punctuate
placed-end = refl
