-- Names that a text spells are not empty, and its whole numbers fit 64 bits.
use Rattle.std.proofs.Common.{arith, ◌≤◌, ◌^◌, ◌≡◌, ℕ, zero, suc, true, List, [], ◌∷◌}
use Rattle.std.proofs.Math.IntN.{pos, neg_ℤ}
use Rattle.semantics.specs.declared.token.Token.{Token}
use Rattle.semantics.specs.declared.token.Token.TheVariants as tokens
use Rattle.semantics.specs.Words.{is_word}
use Rattle.semantics.specs.Tokens.{IsToken, SpellsFrom}
use Rattle.query.proofs.Good.{GoodName, InRange}

abbrev pub Sane : Token → Type 0
Sane (tokens.Word x) = Unit {0}
Sane (tokens.Sign x) = Unit {0}
Sane (tokens.Name n) = GoodName n
Sane (tokens.Integer i) = InRange i
Sane (tokens.Text t) = Unit {0}

abbrev pub AllSane : List Token → Type 0
AllSane [] = Unit {0}
AllSane (k ∷ ks) = Sane k × AllSane ks

word_some : (n : List ℕ) → is_word n ≡ true → GoodName n
word_some [] e = absurd cc
word_some (b ∷ n) e = omega arith

negative : (n : ℕ) → n ≤ 2 ^ 63 → InRange (neg_ℤ (pos n))
negative zero h = omega arith
negative (suc n) h = omega arith

token_sane : {front rest : List ℕ} {k : Token} → IsToken front k rest → Sane k
token_sane (IsToken.keyword h e stop) = tt
token_sane (IsToken.name {front} h e stop) = word_some front h
token_sane (IsToken.quoted_name stop) = omega arith
token_sane (IsToken.text stop) = tt
token_sane (IsToken.number h fits stop) = fits
token_sane (IsToken.negative h fits stop) = negative _ fits
token_sane (IsToken.sign h) = tt

pub spelled_sane : {n : ℕ} {text starts : List ℕ} {ks : List Token} → SpellsFrom n text ks starts → AllSane ks
spelled_sane SpellsFrom.end = tt
spelled_sane (SpellsFrom.space e s) = spelled_sane s
spelled_sane (SpellsFrom.token t s) = (token_sane t, spelled_sane s)
