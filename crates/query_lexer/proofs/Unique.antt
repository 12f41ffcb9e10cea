-- No text spells two lists of tokens.
use Rattle.std.proofs.Common.{arith, length, length-append, ◌+◌, ◌≡◌, ℕ, List, ◌∷◌, ◌++◌, Option, Some, None, refl, sym, ap, ◌∙◌}
use Rattle.semantics.specs.declared.token.Token.{Token}
use Rattle.semantics.specs.Tokens.{IsToken, SpellsFrom, Spells}
use Rattle.query_lexer.specs.Steps.{after_space}
use Rattle.query_lexer.proofs.Complete.{token_c}
use Rattle.query_lexer.proofs.Progress.{spelled_end, spelled_space, spelled_token, space_passed, after_no_token}

-- An option of which nothing follows but none.
is_none : {A : Type 0} (o : Option A) → ((x : A) → o ≡ Some x → ⊥) → o ≡ None
is_none None h = refl
is_none (Some x) h = absurd (h x refl)

-- No white space stands in front of a token.
pub token_no_space : {front rest : List ℕ} {k : Token} → IsToken front k rest → after_space (front ++ rest) ≡ None
token_no_space {front} {rest} t = is_none (after_space (front ++ rest)) (after_no_token t)

spelled_one : {n : ℕ} {bs starts places : List ℕ} {ks others : List Token} → SpellsFrom n bs ks starts → SpellsFrom n bs others places → (ks ≡ others) × (starts ≡ places)
spelled_one SpellsFrom.end q = let e = spelled_end q refl in (sym e.0, sym e.1)
spelled_one (SpellsFrom.space {n} {b} {bs} h s) q = spelled_one s (spelled_space q bs (space_passed b bs h))
spelled_one (SpellsFrom.token {n} {front} {rest} {starts} {k} {ks} t s) q =
    let place : (n + length front) + length rest ≡ n + length (front ++ rest) = omega (arith, length-append front rest) in
    let f = spelled_token q k rest (token_no_space t) (token_c t) (n + length front) place in
    let i = spelled_one s f.spelled in
    (ap (λ (xs : List Token). k ∷ xs) i.0 ∙ sym f.tokens_are, ap (λ (xs : List ℕ). n ∷ xs) i.1 ∙ sym f.starts_are)

pub one : (text : List ℕ) (ks others : List Token) (starts places : List ℕ) → Spells text ks starts → Spells text others places → (ks ≡ others) × (starts ≡ places)
one text ks others starts places s q = spelled_one s q
