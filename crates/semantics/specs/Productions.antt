-- The grammar of expressions and predicates within limits, with one case for each production,
-- written as in Leaves (ISO/IEC 9075-2, <search condition>).
use Rattle.std.specs.Prelude.{◌<◌, ℕ, zero, suc, Bool, List, [], ◌∷◌, length}
use Rattle.semantics.specs.Leaves.{Limits, Derivation, IsRepeated, IsName, IsAggregate, IsLiteral, IsOp, IsTruthValue, IsOptional}
use Rattle.semantics.specs.Syntax.{Expression, SetFunction, Operand, Predicate, over_all, over_filtered, or_of, and_of, not_of, truth_test, predicate_forms}
use Rattle.semantics.specs.declared.aggregate.Aggregate.{Aggregate}
use Rattle.semantics.specs.declared.comparison.Op.{Op}
use Rattle.semantics.specs.declared.literal.Literal.{Literal}
use Rattle.semantics.specs.declared.token.Token.{Token}
use Rattle.semantics.specs.declared.truth.Truth.{Truth}
use Rattle.semantics.specs.declared.token.Token.TheVariants as tokens
use Rattle.semantics.specs.declared.token.Word.TheVariants as w
use Rattle.semantics.specs.declared.token.Sign.TheVariants as s

-- ---- expressions

-- setfn, which is a set function, and after it [ FILTER "(" WHERE pred ")" ], where IsInner is
-- what may stand in the brackets of FILTER
pub data IsFunction (limits : Limits) (IsInner : Derivation Predicate) : List Token → SetFunction
    → List Token → Type 0 where
  plain : {ts r : List Token} {f : Aggregate} → IsAggregate ts f r
      → IsFunction limits IsInner ts (over_all f) r
  filtered : {ts mid r : List Token} {f : Aggregate} {p : Predicate}
      → IsAggregate ts f (tokens.Word w.Filter ∷ tokens.Sign s.Open ∷ tokens.Word w.Where ∷ mid)
      → IsInner mid p (tokens.Sign s.Close ∷ r)
      → IsFunction limits IsInner ts (over_filtered f p) r

-- expr = name | GROUPING "(" name { "," name } ")" | setfn, with at most `arguments` names in a
-- GROUPING
pub data IsExpression (limits : Limits) (IsInner : Derivation Predicate) : List Token → Expression
    → List Token → Type 0 where
  name : {n : List ℕ} {r : List Token}
      → IsExpression limits IsInner (tokens.Name n ∷ r) (Expression.name n) r
  grouping : {mid r : List Token} {n : List ℕ} {ns : List (List ℕ)}
      → IsRepeated (tokens.Sign s.Comma) IsName mid ns (tokens.Sign s.Close ∷ r)
      → length ns < limits.arguments
      → IsExpression limits IsInner (tokens.Word w.Grouping ∷ tokens.Sign s.Open ∷ tokens.Name n
      ∷ mid) (Expression.grouping (n ∷ ns)) r
  function : {ts r : List Token} {f : SetFunction} → IsFunction limits IsInner ts f r
      → IsExpression limits IsInner ts (Expression.function f) r

-- ---- predicates

-- operand = expr | literal
pub data IsOperand (limits : Limits) (IsInner : Derivation Predicate) : List Token → Operand
    → List Token → Type 0 where
  expression : {ts r : List Token} {e : Expression} → IsExpression limits IsInner ts e r
      → IsOperand limits IsInner ts (Operand.expression e) r
  literal : {ts r : List Token} {a : Literal} → IsLiteral ts a r
      → IsOperand limits IsInner ts (Operand.literal a) r

-- atom = operand cmp operand
--      | operand [ NOT ] BETWEEN operand AND operand
--      | operand [ NOT ] IN "(" literal { "," literal } ")", with at most `literals` literals
--      | operand IS [ NOT ] NULL
--      | name
pub data IsAtom (limits : Limits) (IsInner : Derivation Predicate) : List Token → Predicate
    → List Token → Type 0 where
  compare : {ts u v r : List Token} {x y : Operand} {o : Op} → IsOperand limits IsInner ts x u
      → IsOp u o v → IsOperand limits IsInner v y r
      → IsAtom limits IsInner ts (Predicate.compare x o y) r
  between : {ts u v mid r : List Token} {x y z : Operand} {n : Bool}
      → IsOperand limits IsInner ts x u → IsOptional w.Not u n (tokens.Word w.Between ∷ v)
      → IsOperand limits IsInner v y (tokens.Word w.And ∷ mid) → IsOperand limits IsInner mid z r
      → IsAtom limits IsInner ts (Predicate.between x n y z) r
  member : {ts u v mid r : List Token} {x : Operand} {n : Bool} {a : Literal} {ls : List Literal}
      → IsOperand limits IsInner ts x u
      → IsOptional w.Not u n (tokens.Word w.In ∷ tokens.Sign s.Open ∷ v) → IsLiteral v a mid
      → IsRepeated (tokens.Sign s.Comma) IsLiteral mid ls (tokens.Sign s.Close ∷ r)
      → length ls < limits.literals → IsAtom limits IsInner ts (Predicate.member x n (a ∷ ls)) r
  null_test : {ts u r : List Token} {x : Operand} {n : Bool}
      → IsOperand limits IsInner ts x (tokens.Word w.Is ∷ u)
      → IsOptional w.Not u n (tokens.Word w.Null ∷ r)
      → IsAtom limits IsInner ts (Predicate.null_test x n) r
  column : {n : List ℕ} {r : List Token}
      → IsAtom limits IsInner (tokens.Name n ∷ r) (Predicate.column n) r

-- prim = "(" pred ")" | atom
pub data IsPrimary (limits : Limits) (IsInner : Derivation Predicate) : List Token → Predicate
    → List Token → Type 0 where
  brackets : {ts r : List Token} {p : Predicate} → IsInner ts p (tokens.Sign s.Close ∷ r)
      → IsPrimary limits IsInner (tokens.Sign s.Open ∷ ts) p r
  atom : {ts r : List Token} {p : Predicate} → IsAtom limits IsInner ts p r
      → IsPrimary limits IsInner ts p r

-- test = prim [ IS [ NOT ] ( TRUE | FALSE | UNKNOWN ) ]
pub data IsTest (limits : Limits) (IsInner : Derivation Predicate) : List Token → Predicate
    → List Token → Type 0 where
  plain : {ts r : List Token} {p : Predicate} → IsPrimary limits IsInner ts p r
      → IsTest limits IsInner ts p r
  test : {ts u v r : List Token} {p : Predicate} {n : Bool} {t : Truth}
      → IsPrimary limits IsInner ts p (tokens.Word w.Is ∷ u) → IsOptional w.Not u n v
      → IsTruthValue v t r → IsTest limits IsInner ts (truth_test p n t) r

-- neg = [ NOT ] test
pub data IsNegation (limits : Limits) (IsInner : Derivation Predicate) : List Token → Predicate
    → List Token → Type 0 where
  plain : {ts r : List Token} {p : Predicate} → IsTest limits IsInner ts p r
      → IsNegation limits IsInner ts p r
  not : {ts r : List Token} {p : Predicate} → IsTest limits IsInner ts p r
      → IsNegation limits IsInner (tokens.Word w.Not ∷ ts) (not_of p) r

-- OR and AND hold the list of their parts, two or more; a list of one part is that part itself.
abbrev pub conjunction_of : Predicate → List Predicate → Predicate
conjunction_of p [] = p
conjunction_of p (q ∷ qs) = and_of (predicate_forms (p ∷ q ∷ qs))

abbrev pub disjunction_of : Predicate → List Predicate → Predicate
disjunction_of p [] = p
disjunction_of p (q ∷ qs) = or_of (predicate_forms (p ∷ q ∷ qs))

-- conj = neg { AND neg }
pub data IsConjunction (limits : Limits) (IsInner : Derivation Predicate) : List Token → Predicate
    → List Token → Type 0 where
  parts : {ts mid r : List Token} {p : Predicate} {ps : List Predicate}
      → IsNegation limits IsInner ts p mid
      → IsRepeated (tokens.Word w.And) (IsNegation limits IsInner) mid ps r
      → IsConjunction limits IsInner ts (conjunction_of p ps) r

-- pred = conj { OR conj }, where IsInner is what may stand in its brackets
pub data IsDisjunction (limits : Limits) (IsInner : Derivation Predicate) : List Token → Predicate
    → List Token → Type 0 where
  parts : {ts mid r : List Token} {p : Predicate} {ps : List Predicate}
      → IsConjunction limits IsInner ts p mid
      → IsRepeated (tokens.Word w.Or) (IsConjunction limits IsInner) mid ps r
      → IsDisjunction limits IsInner ts (disjunction_of p ps) r

-- pred, with fewer than n levels of brackets
unfoldable pub IsPredicate : Limits → ℕ → List Token → Predicate → List Token → Type 0
IsPredicate limits zero ts p r = ⊥
IsPredicate limits (suc n) ts p r = IsDisjunction limits (IsPredicate limits n) ts p r
