-- Which query a text derives, and what a fault says of a text (ISO/IEC 9075-2, <query
-- specification>). No text derives two queries (`derives_one` of query), and each text derives one
-- or has exactly one fault of syntax (`derives_or_refused`).
use Rattle.std.specs.Prelude.{◌≤◌, ℕ, List, length, ◌≡◌, ◌<◌, ◌⊎◌, Some, Result, MatchResult, [], ◌∷◌, ◌++◌, slice_get}
use Rattle.semantics.specs.Grammar.{DerivesWithin}
use Rattle.semantics.specs.Leaves.{language_limits}
use Rattle.semantics.specs.Prefixes.{IsUnexpected, IsOverLimit}
use Rattle.semantics.specs.Syntax.{Query}
use Rattle.semantics.specs.Tokens.{Spells, StopsAt}
use Rattle.semantics.specs.declared.query_fault.QueryFault.{QueryFault}
use Rattle.semantics.specs.declared.token.Token.{Token}
use Rattle.semantics.specs.declared.query_fault.QueryFault.TheVariants as faults
use Rattle.semantics.specs.Limits.{max_query_len}

-- A text derives a query if it has at most 65,536 bytes, and spells tokens that derive the query
-- within the limits.
pub record Derives (text : List ℕ) (q : Query) : Type 0 where
  pub short : length text ≤ max_query_len
  pub tokens : List Token
  pub starts : List ℕ
  pub spelled : Spells text tokens starts
  pub derived : DerivesWithin language_limits tokens q

-- A text spells tokens of which the first ones begin a query that does not keep the limits.
pub record SpellsTooMuch (text : List ℕ) : Type 0 where
  pub tokens : List Token
  pub starts : List ℕ
  pub spelled : Spells text tokens starts
  pub over : IsOverLimit tokens

-- A text spells tokens, of which one begins at this byte, or the text ends there, and that token,
-- or the end, continues no query.
pub record IsUnexpectedAt (text : List ℕ) (byte : ℕ) : Type 0 where
  pub tokens : List Token
  pub starts : List ℕ
  pub spelled : Spells text tokens starts
  pub place : ℕ
  pub begins : slice_get (starts ++ length text ∷ []) place ≡ Some byte
  pub unexpected : IsUnexpected tokens place

-- What a fault says of a text. A text of more than 65,536 bytes is over a limit, and has no other
-- fault. Of any other text a fault says that no token begins at a byte; or that the text spells
-- tokens, and one of them, or the end, is unexpected; or that they are too much. No other fault
-- is one of a text, and want of memory says nothing of it.
abbrev pub IsRefusalOf : List ℕ → QueryFault → Type 0
IsRefusalOf text (faults.NoToken byte) = (length text ≤ max_query_len) × StopsAt text byte
IsRefusalOf text (faults.Unexpected byte) = (length text ≤ max_query_len) × IsUnexpectedAt text byte
IsRefusalOf text (faults.UnknownColumn name) = ⊥
IsRefusalOf text faults.TypesDisagree = ⊥
IsRefusalOf text (faults.NotGrouped name) = ⊥
IsRefusalOf text faults.OverLimit = (max_query_len < length text) ⊎ SpellsTooMuch text
IsRefusalOf text faults.FunctionNotAllowed = ⊥
IsRefusalOf text (faults.RepeatedHeader header) = ⊥
IsRefusalOf text faults.OutOfMemory = ⊥

-- A call refuses with this fault, unless memory ran out.
abbrev pub Refuses : {A : Type 0} → Result A QueryFault → QueryFault → Type 0
Refuses result fault =
    MatchResult result (λ x. ⊥) (λ other. (other ≡ fault) ⊎ (other ≡ faults.OutOfMemory))
