-- No text derives two queries.
use Rattle.std.proofs.Common.{◌≡◌, ℕ, List, subst}
use Rattle.semantics.specs.declared.token.Token.{Token}
use Rattle.semantics.specs.Tokens.{Spells}
use Rattle.semantics.specs.Syntax.{Query}
use Rattle.semantics.specs.Leaves.{language_limits}
use Rattle.semantics.specs.Grammar.{DerivesWithin}
use Rattle.semantics.specs.Reading.{Derives}

pub one : ((text : List ℕ) (ks others : List Token) (starts places : List ℕ) → Spells text ks starts → Spells text others places → (ks ≡ others) × (starts ≡ places))
    → ((ts : List Token) (p q : Query) → DerivesWithin language_limits ts p → DerivesWithin language_limits ts q → p ≡ q)
    → (text : List ℕ) (p q : Query) → Derives text p → Derives text q → p ≡ q
one spells derives text p q d e =
    let same = (spells text e.tokens d.tokens e.starts d.starts e.spelled d.spelled).0 in
    derives d.tokens p q d.derived (subst (λ (ts : List Token). DerivesWithin language_limits ts q) same e.derived)
