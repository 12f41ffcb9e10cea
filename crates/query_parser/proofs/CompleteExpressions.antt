-- Expressions that derive from tokens are read.
use Rattle.std.proofs.Common.{arith, ◌≡◌, List, ◌∷◌, true, None, Ok, refl}
use Rattle.semantics.specs.declared.token.Token.{Token}
use Rattle.semantics.specs.declared.token.Token.TheVariants as tokens
use Rattle.semantics.specs.declared.token.Word.TheVariants as w
use Rattle.semantics.specs.declared.token.Sign.TheVariants as s
use Rattle.semantics.specs.Syntax.{Expression, SetFunction, Predicate}
use Rattle.semantics.specs.Leaves.{Limits, Derivation, IsName}
use Rattle.query_parser.specs.Inside.Fronts.{is_word, after}
use Rattle.query_parser.specs.Inside.Steps.{name_at}
use Rattle.query_parser.specs.Inside.ExpressionSteps.{Inside, filter_at, function_at, expression_at}
use Rattle.semantics.specs.Productions.{IsFunction, IsExpression}
use Rattle.query_parser.proofs.Agree.{Wider}
use Rattle.query_parser.proofs.CompleteLists.{Shrinks, repeated_short}
use Rattle.query_parser.proofs.CompleteLeaves.{arguments_c, aggregate_c, function_begins, name_short, aggregate_short}

-- What derives before a closing bracket is read in brackets, and a level of them is left for it.
pub record IsRead (P : Derivation Predicate) (inside : Inside) (ts r : List Token) (p : Predicate) : Type 0 where
  pub has_level : inside.has_level ≡ true
  pub read : inside.read ts ≡ Ok (p, tokens.Sign s.Close ∷ r)

abbrev pub IsComplete : Derivation Predicate → Inside → Type 0
IsComplete P inside = (ts r : List Token) (p : Predicate) → P ts p (tokens.Sign s.Close ∷ r) → IsRead P inside ts r p

-- No FILTER goes on that would belong to a set function.
abbrev pub EndsFunction : List Token → Type 0
EndsFunction r = after (is_word w.Filter) r ≡ None

module _ (limits : Limits) (IsInner : Derivation Predicate) (inside : Inside) (wider : Wider limits inside.limits) (inside_c : IsComplete IsInner inside) where
  function_c : {ts r : List Token} {f : SetFunction} → IsFunction limits IsInner ts f r → EndsFunction r → function_at inside ts ≡ Ok (f, r)
  unfolding function_at filter_at
  function_c (IsFunction.plain f) q = rw (aggregate_c f, q) refl
  function_c (IsFunction.filtered {mid = mid} {r = r} {p = p} f i) q = rw (aggregate_c f, (inside_c mid r p i).has_level, (inside_c mid r p i).read) refl

  function_front : {ts r : List Token} {f : SetFunction} → IsFunction limits IsInner ts f r → (after (is_word w.Grouping) ts ≡ None) × (name_at ts ≡ None)
  function_front (IsFunction.plain f) = ((function_begins f).no_grouping, (function_begins f).no_name)
  function_front (IsFunction.filtered f i) = ((function_begins f).no_grouping, (function_begins f).no_name)

  pub expression_c : {ts r : List Token} {e : Expression} → IsExpression limits IsInner ts e r → EndsFunction r → expression_at inside ts ≡ Ok (e, r)
  unfolding expression_at name_at
  expression_c IsExpression.name q = refl
  expression_c (IsExpression.grouping b few) q = rw (arguments_c {most = inside.limits.arguments} b (omega (arith, few, wider.arguments))) refl
  expression_c (IsExpression.function f) q = rw ((function_front f).1, (function_front f).0, function_c f q) refl

-- ---- what an expression takes

module _ (limits : Limits) (IsInner : Derivation Predicate) (short : Shrinks IsInner) where
  function_short : Shrinks (IsFunction limits IsInner)
  function_short _ _ _ (IsFunction.plain {ts} {r} {f} i) = aggregate_short ts r f i
  function_short _ _ _ (IsFunction.filtered {ts} {mid} {r} {f} {p} i j) =
      omega (arith, aggregate_short ts (tokens.Word w.Filter ∷ tokens.Sign s.Open ∷ tokens.Word w.Where ∷ mid) f i, short mid (tokens.Sign s.Close ∷ r) p j)

  pub expression_short : Shrinks (IsExpression limits IsInner)
  expression_short _ _ _ IsExpression.name = omega arith
  expression_short _ _ _ (IsExpression.grouping b few) = omega (arith, repeated_short (tokens.Sign s.Comma) IsName name_short b)
  expression_short _ _ _ (IsExpression.function f) = function_short _ _ _ f
