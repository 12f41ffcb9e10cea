-- Where tokens begin.
use Rattle.std.proofs.Common.{◌≡◌, ℕ, zero, suc, List, [], ◌∷◌, ◌++◌, Some, ◌-◌, ◌≤◌, length, refl, sym, ap, subst, arith}
use Rattle.std.specs.Prelude.{slice_get}
use Rattle.semantics.specs.declared.token.Token.{Token}
use Rattle.semantics.specs.Tokens.{SpellsFrom, Spells}
use Rattle.semantics.specs.Prefixes.{IsUnexpected, IsOverLimit}
use Rattle.semantics.specs.Reading.{IsUnexpectedAt, SpellsTooMuch}

-- Each token begins at one byte.
pub starts_of_all : {n : ℕ} {bs starts : List ℕ} {ks : List Token} → SpellsFrom n bs ks starts → length starts ≡ length ks
starts_of_all SpellsFrom.end = refl
starts_of_all (SpellsFrom.space e s) = starts_of_all s
starts_of_all (SpellsFrom.token t s) = ap suc (starts_of_all s)

-- There are as many bytes as tokens, so tokens that are there begin somewhere.
pub room_of : (text starts : List ℕ) (ks all : List Token) (left : ℕ) → Spells text ks starts → all ≡ ks → left ≤ length all → left ≤ length starts
room_of text starts ks all left s e h = omega (arith, starts_of_all s, ap length e)

-- A byte before the last.
pub place_before : (xs : List ℕ) (last place byte : ℕ) → slice_get xs place ≡ Some byte → slice_get (xs ++ last ∷ []) place ≡ Some byte
place_before [] last place byte e = absurd cc
place_before (x ∷ xs) last zero byte e = e
place_before (x ∷ xs) last (suc place) byte e = place_before xs last place byte e

-- The last byte.
pub place_last : (xs : List ℕ) (last place : ℕ) → place ≡ length xs → slice_get (xs ++ last ∷ []) place ≡ Some last
place_last [] last zero e = refl
place_last [] last (suc place) e = absurd (omega arith)
place_last (x ∷ xs) last zero e = absurd (omega arith)
place_last (x ∷ xs) last (suc place) e = place_last xs last place (omega arith)

-- A token, or the end, that continues no query, where it begins.
pub unexpected_at : (text starts : List ℕ) (ks : List Token) (left byte : ℕ) → Spells text ks starts → IsUnexpected ks (length ks - left) → slice_get (starts ++ length text ∷ []) (length starts - left) ≡ Some byte → IsUnexpectedAt text byte
unexpected_at text starts ks left byte s u e = record {
  tokens = ks;
  starts = starts;
  spelled = s;
  place = length starts - left;
  begins = e;
  unexpected = subst (λ (n : ℕ). IsUnexpected ks (n - left)) (sym (starts_of_all s)) u;
}

-- Tokens of too much, as a text.
pub too_much : (text starts : List ℕ) (ks : List Token) → Spells text ks starts → IsOverLimit ks → SpellsTooMuch text
too_much text starts ks s o = record { tokens = ks; starts = starts; spelled = s; over = o }
