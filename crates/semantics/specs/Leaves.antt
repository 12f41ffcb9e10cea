-- The leaves of the grammar, which hold no expression and no predicate, with one case for each
-- production (ISO/IEC 9075-2, <set function specification>, <literal>). `P ts x rest` says that
-- the tokens at the beginning of `ts` derive `x`, and that `rest` follows them. The production is
-- written above its relation: words in capitals are keywords, words in small letters are other
-- productions, `{ x }` is none or more, `[ x ]` is none or one, `|` parts choices. All productions
-- on one page are in docs/LANGUAGE.md.
use Rattle.std.specs.Prelude.{ℕ, ℤ, Bool, true, false, List, [], ◌∷◌}
use Rattle.semantics.specs.declared.aggregate.Aggregate.{Aggregate}
use Rattle.semantics.specs.declared.comparison.Op.{Op}
use Rattle.semantics.specs.declared.literal.Literal.{Literal}
use Rattle.semantics.specs.declared.token.Token.{Token}
use Rattle.semantics.specs.declared.token.Word.{Word}
use Rattle.semantics.specs.declared.truth.Truth.{Truth}
use Rattle.semantics.specs.declared.comparison.Op.TheVariants as op
use Rattle.semantics.specs.declared.truth.Truth.TheVariants as truth
use Rattle.semantics.specs.declared.token.Token.TheVariants as tokens
use Rattle.semantics.specs.declared.token.Word.TheVariants as w
use Rattle.semantics.specs.declared.token.Sign.TheVariants as s
use Rattle.semantics.specs.declared.aggregate.Aggregate.TheVariants as aggregates
use Rattle.semantics.specs.declared.literal.Literal.TheVariants as literals

-- How many there may be at most: items of SELECT, names in a GROUPING, literals in an IN, levels of
-- brackets round a predicate, those of FILTER among them, and levels of GROUPING SETS in one
-- another.
pub record Limits : Type 0 where
  pub items : ℕ
  pub arguments : ℕ
  pub literals : ℕ
  pub levels : ℕ
  pub sets : ℕ

-- The limits of the language.
abbrev pub language_limits : Limits
language_limits = record { items = 64; arguments = 8; literals = 64; levels = 64; sets = 16 }

-- A relation that derives a value from the first of some tokens, with those that follow them.
abbrev pub Derivation : Type 0 → Type 1
Derivation A = List Token → A → List Token → Type 0

-- { sep item }
pub data IsRepeated {A : Type 0} (sep : Token) (IsPart : Derivation A) : List Token → List A
    → List Token → Type 0 where
  none : {r : List Token} → IsRepeated sep IsPart r [] r
  more : {ts mid r : List Token} {x : A} {xs : List A} → IsPart ts x mid
      → IsRepeated sep IsPart mid xs r → IsRepeated sep IsPart (sep ∷ ts) (x ∷ xs) r

-- name
pub data IsName : List Token → List ℕ → List Token → Type 0 where
  name : {n : List ℕ} {r : List Token} → IsName (tokens.Name n ∷ r) n r

-- keyword "(" name ")", and then these tokens
abbrev pub call : Word → List ℕ → List Token → List Token
call keyword n r =
    tokens.Word keyword ∷ tokens.Sign s.Open ∷ tokens.Name n ∷ tokens.Sign s.Close ∷ r

-- setfn = COUNT "(" "*" ")" | COUNT "(" [ DISTINCT ] name ")"
--       | SUM "(" name ")" | MIN "(" name ")" | MAX "(" name ")" | AVG "(" name ")"
-- apart from its FILTER
pub data IsAggregate : List Token → Aggregate → List Token → Type 0 where
  count_rows : {r : List Token}
      → IsAggregate
      (tokens.Word w.Count ∷ tokens.Sign s.Open ∷ tokens.Sign s.Star ∷ tokens.Sign s.Close ∷ r)
      aggregates.CountRows r
  count : {n : List ℕ} {r : List Token} → IsAggregate (call w.Count n r) (aggregates.Count n) r
  count_distinct : {n : List ℕ} {r : List Token}
      → IsAggregate (tokens.Word w.Count ∷ tokens.Sign s.Open ∷ tokens.Word w.Distinct
      ∷ tokens.Name n ∷ tokens.Sign s.Close ∷ r) (aggregates.CountDistinct n) r
  sum : {n : List ℕ} {r : List Token} → IsAggregate (call w.Sum n r) (aggregates.Sum n) r
  min : {n : List ℕ} {r : List Token} → IsAggregate (call w.Min n r) (aggregates.Min n) r
  max : {n : List ℕ} {r : List Token} → IsAggregate (call w.Max n r) (aggregates.Max n) r
  avg : {n : List ℕ} {r : List Token} → IsAggregate (call w.Avg n r) (aggregates.Avg n) r

-- literal = whole number | text | TRUE | FALSE
pub data IsLiteral : List Token → Literal → List Token → Type 0 where
  integer : {i : ℤ} {r : List Token} → IsLiteral (tokens.Integer i ∷ r) (literals.Integer i) r
  text : {t : List ℕ} {r : List Token} → IsLiteral (tokens.Text t ∷ r) (literals.Text t) r
  yes : {r : List Token} → IsLiteral (tokens.Word w.True ∷ r) (literals.Truth true) r
  no : {r : List Token} → IsLiteral (tokens.Word w.False ∷ r) (literals.Truth false) r

-- cmp = "=" | "<>" | "<" | "<=" | ">" | ">="
pub data IsOp : List Token → Op → List Token → Type 0 where
  eq : {r : List Token} → IsOp (tokens.Sign s.Equal ∷ r) op.Eq r
  ne : {r : List Token} → IsOp (tokens.Sign s.NotEqual ∷ r) op.Ne r
  lt : {r : List Token} → IsOp (tokens.Sign s.Less ∷ r) op.Lt r
  le : {r : List Token} → IsOp (tokens.Sign s.LessOrEqual ∷ r) op.Le r
  gt : {r : List Token} → IsOp (tokens.Sign s.Greater ∷ r) op.Gt r
  ge : {r : List Token} → IsOp (tokens.Sign s.GreaterOrEqual ∷ r) op.Ge r

-- TRUE | FALSE | UNKNOWN
pub data IsTruthValue : List Token → Truth → List Token → Type 0 where
  yes : {r : List Token} → IsTruthValue (tokens.Word w.True ∷ r) truth.True r
  no : {r : List Token} → IsTruthValue (tokens.Word w.False ∷ r) truth.False r
  unknown : {r : List Token} → IsTruthValue (tokens.Word w.Unknown ∷ r) truth.Unknown r

-- [ keyword ], and whether it is written
pub data IsOptional (keyword : Word) : List Token → Bool → List Token → Type 0 where
  none : {r : List Token} → IsOptional keyword r false r
  written : {r : List Token} → IsOptional keyword (tokens.Word keyword ∷ r) true r
