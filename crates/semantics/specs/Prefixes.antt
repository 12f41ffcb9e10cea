-- Which tokens begin a query, and where tokens that are none go wrong.
use Rattle.std.specs.Prelude.{◌≤◌, ◌<◌, ◌+◌, ℕ, List, [], ◌∷◌, ◌++◌, length, take}
use Rattle.semantics.specs.Grammar.{DerivesWithin}
use Rattle.semantics.specs.Leaves.{Limits, language_limits}
use Rattle.semantics.specs.Syntax.{Query}
use Rattle.semantics.specs.declared.token.Token.{Token}
use Rattle.semantics.specs.declared.token.Token.TheVariants as tokens
use Rattle.semantics.specs.declared.token.Word.TheVariants as w
use Rattle.semantics.specs.declared.token.Sign.TheVariants as s

-- These tokens begin a query within these limits: with some tokens after them they derive one.
pub record BeginsWithin (limits : Limits) (front : List Token) : Type 0 where
  pub rest : List Token
  pub tree : Query
  pub derived : DerivesWithin limits (front ++ rest) tree

-- These tokens begin a query: they do within some limits.
pub record Begins (front : List Token) : Type 0 where
  pub limits : Limits
  pub within : BeginsWithin limits front

-- These tokens keep the limits of the language: they begin a query within them. A comma or the
-- word FILTER at their end does not count: what follows it may be too much, and it is not too
-- much itself.
pub data KeepsLimits : List Token → Type 0 where
  begins : {front : List Token} → BeginsWithin language_limits front → KeepsLimits front
  comma : {front : List Token} → BeginsWithin language_limits front
      → KeepsLimits (front ++ tokens.Sign s.Comma ∷ [])
  filter : {front : List Token} → BeginsWithin language_limits front
      → KeepsLimits (front ++ tokens.Word w.Filter ∷ [])

-- The token at this position, from 0, is unexpected; at the position after the last token, it is
-- the end that is. The tokens before it begin a query and keep the limits. With it they begin no
-- query, and all tokens together are no query, whatever the limits.
pub record IsUnexpected (ts : List Token) (place : ℕ) : Type 0 where
  pub inside : place ≤ length ts
  pub begins : Begins (take place ts)
  pub keeps : KeepsLimits (take place ts)
  pub continues_none : place < length ts → Begins (take (place + 1) ts) → ⊥
  pub derives_none : (limits : Limits) (q : Query) → DerivesWithin limits ts q → ⊥

-- There is too much: some of the first tokens begin a query and do not keep the limits.
pub record IsOverLimit (ts : List Token) : Type 0 where
  pub place : ℕ
  pub inside : place ≤ length ts
  pub begins : Begins (take place ts)
  pub exceeds : KeepsLimits (take place ts) → ⊥
