-- Which texts a query has, whatever their length.
use Rattle.std.specs.Prelude.{ℕ, List}
use Rattle.semantics.specs.declared.token.Token.{Token}
use Rattle.semantics.specs.Tokens.{Spells}
use Rattle.semantics.specs.Syntax.{Query}
use Rattle.semantics.specs.Leaves.{language_limits}
use Rattle.semantics.specs.Grammar.{DerivesWithin}

-- A text is one of a query where it spells tokens that derive the query within the limits.
pub record IsTextOf (text : List ℕ) (q : Query) : Type 0 where
  pub tokens : List Token
  pub starts : List ℕ
  pub spelled : Spells text tokens starts
  pub derived : DerivesWithin language_limits tokens q
