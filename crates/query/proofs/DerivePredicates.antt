-- The tokens of a good query derive it.
use Rattle.std.proofs.Common.{arith, ◌<◌, ◌≤◌, ◌≡◌, ℕ, zero, suc, Bool, true, false, List, [], ◌∷◌, map, refl, ap, subst, inl, inr}
use Rattle.std.specs.Prelude.{nat_lt}
use Rattle.std.proofs.lemmas.Bool.{cases_lt}
use Rattle.std.proofs.lemmas.Bool.Decides.{nat_tests}
use Rattle.semantics.specs.declared.comparison.Op.{Op}
use Rattle.semantics.specs.declared.comparison.Op.TheVariants as op
use Rattle.semantics.specs.declared.truth.Truth.{Truth}
use Rattle.semantics.specs.declared.truth.Truth.TheVariants as truth
use Rattle.semantics.specs.declared.token.Token.{Token}
use Rattle.semantics.specs.declared.token.Token.TheVariants as tokens
use Rattle.semantics.specs.declared.token.Word.TheVariants as w
use Rattle.semantics.specs.declared.token.Sign.TheVariants as s
use Rattle.semantics.specs.declared.literal.Literal.{Literal}
use Rattle.semantics.specs.declared.literal.Literal.TheVariants as literals
use Rattle.semantics.specs.declared.aggregate.Aggregate.{Aggregate}
use Rattle.semantics.specs.declared.aggregate.Aggregate.TheVariants as aggregates
use Rattle.semantics.specs.Syntax.{Expression, SetFunction, Operand, Predicate, Predicates, name, grouping, function, over_all, over_filtered, or_of, and_of, not_of, truth_test, compare, between, member, null_test, column, no_parts, part, predicate_forms}
use Rattle.semantics.specs.Canonical.{precedence}
use Rattle.semantics.specs.Leaves.{language_limits, Derivation, IsRepeated, IsName, IsAggregate, IsLiteral, IsOp, IsTruthValue, IsOptional}
use Rattle.semantics.specs.Productions.{IsFunction, IsExpression, IsOperand, IsAtom, IsPrimary, IsTest, IsNegation, IsConjunction, IsDisjunction, IsPredicate}
use Rattle.query.proofs.Good.{Each, Filled, GoodName, GoodFunction, GoodExpression, GoodLiteral, GoodOperand, IsMany, Fits, Good, PartsFit}
use Rattle.query.proofs.Onto.{Onto, others_onto, list_onto, name_onto, aggregate_onto, function_onto, expression_onto, literal_onto, operand_onto, op_sign, truth_word, not_onto, bracketed_onto, predicate_onto, part_ontos}

-- ---- lists

-- The others of a list derive it, where each element is derived from its tokens.
pub others_derive : {A : Type 0} (sep : Token) (D : Derivation A) (onto : A → Onto) (P : A → Type 0)
    → ((x : A) (r : List Token) → P x → D (onto x r) x r)
    → (xs : List A) (r : List Token) → Each P xs → IsRepeated sep D (others_onto sep (map onto xs) r) xs r
others_derive sep D onto P made [] r g = IsRepeated.none
others_derive sep D onto P made (x ∷ xs) r g = IsRepeated.more (made x _ g.0) (others_derive sep D onto P made xs r g.1)

-- The same with commas.
pub commas_derive : {A : Type 0} (D : Derivation A) (onto : A → Onto) (P : A → Type 0) → ((x : A) (r : List Token) → P x → D (onto x r) x r)
    → (xs : List A) (r : List Token) → Each P xs → IsRepeated (tokens.Sign s.Comma) D (others_onto (tokens.Sign s.Comma) (map onto xs) r) xs r
commas_derive = others_derive (tokens.Sign s.Comma)

-- ---- expressions

pub name_d : (n : List ℕ) (r : List Token) → GoodName n → IsName (name_onto n r) n r
name_d n r g = IsName.name

aggregate_d : (f : Aggregate) (r : List Token) → IsAggregate (aggregate_onto f r) f r
aggregate_d aggregates.CountRows r = IsAggregate.count_rows
aggregate_d (aggregates.Count n) r = IsAggregate.count
aggregate_d (aggregates.CountDistinct n) r = IsAggregate.count_distinct
aggregate_d (aggregates.Sum n) r = IsAggregate.sum
aggregate_d (aggregates.Min n) r = IsAggregate.min
aggregate_d (aggregates.Max n) r = IsAggregate.max
aggregate_d (aggregates.Avg n) r = IsAggregate.avg

grouping_d : (Inner : Derivation Predicate) (ns : List (List ℕ)) (r : List Token) → Filled 8 GoodName ns → IsExpression language_limits Inner (expression_onto (grouping ns) r) (grouping ns) r
grouping_d Inner [] r g = absurd g
grouping_d Inner (n ∷ ns) r g =
    IsExpression.grouping (commas_derive IsName name_onto GoodName name_d ns (tokens.Sign s.Close ∷ r) g.1) g.2

-- ---- the leaves of predicates

literal_d : (a : Literal) (r : List Token) → GoodLiteral a → IsLiteral (literal_onto a r) a r
literal_d (literals.Integer i) r g = IsLiteral.integer
literal_d (literals.Text t) r g = IsLiteral.text
literal_d (literals.Truth true) r g = IsLiteral.yes
literal_d (literals.Truth false) r g = IsLiteral.no

op_d : (o : Op) (r : List Token) → IsOp (tokens.Sign (op_sign o) ∷ r) o r
op_d op.Eq r = IsOp.eq
op_d op.Ne r = IsOp.ne
op_d op.Lt r = IsOp.lt
op_d op.Le r = IsOp.le
op_d op.Gt r = IsOp.gt
op_d op.Ge r = IsOp.ge

truth_d : (t : Truth) (r : List Token) → IsTruthValue (tokens.Word (truth_word t) ∷ r) t r
truth_d truth.True r = IsTruthValue.yes
truth_d truth.False r = IsTruthValue.no
truth_d truth.Unknown r = IsTruthValue.unknown

mark_d : (n : Bool) (r : List Token) → IsOptional w.Not (not_onto n r) n r
mark_d true r = IsOptional.written
mark_d false r = IsOptional.none

-- The tokens of an operand derive it, whatever stands behind them.
abbrev OperandDerives : Derivation Predicate → Operand → Type 0
OperandDerives Inner x = (r : List Token) → IsOperand language_limits Inner (operand_onto x r) x r

member_d : (Inner : Derivation Predicate) (x : Operand) (n : Bool) (ls : List Literal) (r : List Token) → OperandDerives Inner x → Filled 64 GoodLiteral ls
    → IsAtom language_limits Inner (predicate_onto (member x n ls) r) (member x n ls) r
member_d Inner x n [] r g h = absurd h
member_d Inner x n (a ∷ ls) r g h =
    let others = commas_derive IsLiteral literal_onto GoodLiteral literal_d ls (tokens.Sign s.Close ∷ r) h.1 in
    IsAtom.member (g _) (mark_d n _) (literal_d a _ h.0) others h.2

-- ---- levels: what a predicate that holds together so tightly is derived as

abbrev At : ℕ → ℕ → Derivation Predicate
At zero n = IsDisjunction language_limits (IsPredicate language_limits n)
At (suc zero) n = IsConjunction language_limits (IsPredicate language_limits n)
At (suc (suc zero)) n = IsNegation language_limits (IsPredicate language_limits n)
At (suc (suc (suc zero))) n = IsTest language_limits (IsPredicate language_limits n)
At (suc (suc (suc (suc k)))) n = IsPrimary language_limits (IsPredicate language_limits n)

down : (l n : ℕ) (ts r : List Token) (p : Predicate) → At (suc l) n ts p r → At l n ts p r
down zero n ts r p i = IsDisjunction.parts {ps = []} i IsRepeated.none
down (suc zero) n ts r p i = IsConjunction.parts {ps = []} i IsRepeated.none
down (suc (suc zero)) n ts r p i = IsNegation.plain i
down (suc (suc (suc zero))) n ts r p i = IsTest.plain i
down (suc (suc (suc (suc k)))) n ts r p i = i

lower : (l k n : ℕ) (ts r : List Token) (p : Predicate) → k ≤ l → At l n ts p r → At k n ts p r
lower zero k n ts r p h i = subst (λ j. At j n ts p r) (let e : 0 ≡ k = omega arith in e) i
lower (suc l) k n ts r p h i =
    elim (cases_lt k (suc l)) [
      | inl j ↦ lower l k n ts r p (omega arith) (down l n ts r p i)
      | inr j ↦ subst (λ x. At x n ts p r) (let e : suc l ≡ k = omega arith in e) i
    ]

is_less : (a b : ℕ) → a < b → nat_lt a b ≡ true
is_less a b h = grind (arith, nat_tests)

not_less : (a b : ℕ) → b ≤ a → nat_lt a b ≡ false
not_less a b h = grind (arith, nat_tests)

bracket : (k n : ℕ) (ts r : List Token) (p : Predicate) → k ≤ 4 → At 0 n ts p (tokens.Sign s.Close ∷ r)
    → At k (suc n) (tokens.Sign s.Open ∷ ts) p r
unfolding IsPredicate
bracket k n ts r p h i = lower 4 k (suc n) (tokens.Sign s.Open ∷ ts) r p h (IsPrimary.brackets i)

fits_d : (k has n : ℕ) (p : Predicate) (f : Onto) (G : ℕ → Type 0) → ((m : ℕ) (r : List Token) → G m → At has m (f r) p r) → k ≤ 4
    → (r : List Token) → Fits k has G n → At k n (bracketed_onto k has f r) p r
fits_d k has zero p f G made room r (inl h) = absurd h.1
fits_d k has (suc n) p f G made room r (inl h) =
    let closed : List Token = tokens.Sign s.Close ∷ r in
    rw (is_less has k h.0) (bracket k n (f closed) r p room (lower has 0 n (f closed) closed p (omega arith) (made n closed h.1)))
fits_d k has n p f G made room r (inr h) = rw (not_less has k h.0) (lower has k n (f r) r p h.0 (made n r h.1))

-- ---- the parts of an OR or an AND

abbrev listed : Predicates → List Predicate
listed no_parts = []
listed (part p ps) = p ∷ listed ps

listed_again : (ps : Predicates) → predicate_forms (listed ps) ≡ ps
listed_again no_parts = refl
listed_again (part p ps) = ap (λ (qs : Predicates). part p qs) (listed_again ps)

-- The first part, and the others behind it.
abbrev PartsDerive : ℕ → Token → Predicates → ℕ → List Token → Type 0
PartsDerive k sep no_parts n r = Unit {0}
PartsDerive k sep (part p ps) n r =
    At k n (list_onto sep (part_ontos k (part p ps)) r) p (others_onto sep (part_ontos k ps) r)
    × IsRepeated sep (At k n) (others_onto sep (part_ontos k ps) r) (listed ps) r

or_d : (ps : Predicates) (n : ℕ) (r : List Token) → IsMany ps → PartsDerive 1 (tokens.Word w.Or) ps n r
    → IsDisjunction language_limits (IsPredicate language_limits n) (predicate_onto (or_of ps) r) (or_of ps) r
or_d no_parts n r many g = absurd many
or_d (part p no_parts) n r many g = absurd many
or_d (part p (part q ps)) n r many g =
    let ts : List Token = predicate_onto (or_of (part p (part q ps))) r in
    subst (λ qs. IsDisjunction language_limits (IsPredicate language_limits n) ts (or_of (part p (part q qs))) r) (listed_again ps) (IsDisjunction.parts g.0 g.1)

and_d : (ps : Predicates) (n : ℕ) (r : List Token) → IsMany ps → PartsDerive 2 (tokens.Word w.And) ps n r
    → IsConjunction language_limits (IsPredicate language_limits n) (predicate_onto (and_of ps) r) (and_of ps) r
and_d no_parts n r many g = absurd many
and_d (part p no_parts) n r many g = absurd many
and_d (part p (part q ps)) n r many g =
    let ts : List Token = predicate_onto (and_of (part p (part q ps))) r in
    subst (λ qs. IsConjunction language_limits (IsPredicate language_limits n) ts (and_of (part p (part q qs))) r) (listed_again ps) (IsConjunction.parts g.0 g.1)

-- A predicate with at most n levels of brackets is one with fewer than n and one more.
as_predicate : (l n : ℕ) (ts r : List Token) (p : Predicate) → At l n ts p r → IsPredicate language_limits (suc n) ts p r
unfolding IsPredicate
as_predicate l n ts r p i = lower l 0 n ts r p (omega arith) i

mutual
  function_d : (f : SetFunction) (n : ℕ) (r : List Token) → GoodFunction f n → IsFunction language_limits (IsPredicate language_limits n) (function_onto f r) f r
  function_d (over_all f) n r g = IsFunction.plain (aggregate_d f r)
  function_d (over_filtered f p) zero r g = absurd g.1
  function_d (over_filtered f p) (suc n) r g =
      let closed : List Token = tokens.Sign s.Close ∷ r in
      IsFunction.filtered (aggregate_d f _) (as_predicate (precedence p) n (predicate_onto p closed) closed p (good_d p n closed g.1))

  pub expression_d : (e : Expression) (n : ℕ) (r : List Token) → GoodExpression e n → IsExpression language_limits (IsPredicate language_limits n) (expression_onto e r) e r
  expression_d (name m) n r g = IsExpression.name
  expression_d (grouping ms) n r g = grouping_d (IsPredicate language_limits n) ms r g
  expression_d (function f) n r g = IsExpression.function (function_d f n r g)

  operand_d : (x : Operand) (n : ℕ) → GoodOperand x n → OperandDerives (IsPredicate language_limits n) x
  operand_d (Operand.expression e) n g r = IsOperand.expression (expression_d e n r g)
  operand_d (Operand.literal a) n g r = IsOperand.literal (literal_d a r g)

  pub good_d : (p : Predicate) (n : ℕ) (r : List Token) → Good p n → At (precedence p) n (predicate_onto p r) p r
  good_d (or_of ps) n r g = or_d ps n r g.0 (parts_d (tokens.Word w.Or) 1 ps n r (omega arith) g.1)
  good_d (and_of ps) n r g = and_d ps n r g.0 (parts_d (tokens.Word w.And) 2 ps n r (omega arith) g.1)
  good_d (not_of p) n r g = IsNegation.not (fits_d 3 (precedence p) n p (predicate_onto p) (Good p) (good_d p) (omega arith) r g)
  good_d (truth_test p b t) n r g =
      IsTest.test (fits_d 4 (precedence p) n p (predicate_onto p) (Good p) (good_d p) (omega arith) _ g) (mark_d b _) (truth_d t r)
  good_d (compare x o y) n r g = IsPrimary.atom (IsAtom.compare (operand_d x n g.0 _) (op_d o _) (operand_d y n g.1 r))
  good_d (between x b y z) n r g = IsPrimary.atom (IsAtom.between (operand_d x n g.0 _) (mark_d b _) (operand_d y n g.1 _) (operand_d z n g.2 r))
  good_d (member x b ls) n r g = IsPrimary.atom (member_d (IsPredicate language_limits n) x b ls r (operand_d x n g.0) g.1)
  good_d (null_test x b) n r g = IsPrimary.atom (IsAtom.null_test (operand_d x n g _) (mark_d b _))
  good_d (column m) n r g = IsPrimary.atom IsAtom.column

  parts_d : (sep : Token) (k : ℕ) (ps : Predicates) (n : ℕ) (r : List Token) → k ≤ 4 → PartsFit k ps n → PartsDerive k sep ps n r
  parts_d sep k no_parts n r room g = tt
  parts_d sep k (part p ps) n r room g =
      (fits_d k (precedence p) n p (predicate_onto p) (Good p) (good_d p) room _ g.0, others_d sep k ps n r room g.1)

  others_d : (sep : Token) (k : ℕ) (ps : Predicates) (n : ℕ) (r : List Token) → k ≤ 4 → PartsFit k ps n
      → IsRepeated sep (At k n) (others_onto sep (part_ontos k ps) r) (listed ps) r
  others_d sep k no_parts n r room g = IsRepeated.none
  others_d sep k (part p ps) n r room g =
      IsRepeated.more (fits_d k (precedence p) n p (predicate_onto p) (Good p) (good_d p) room _ g.0) (others_d sep k ps n r room g.1)

-- The tokens of a good predicate derive it.
pub predicate_d : (p : Predicate) (n : ℕ) (r : List Token) → Good p n → IsPredicate language_limits (suc n) (predicate_onto p r) p r
predicate_d p n r g = as_predicate (precedence p) n (predicate_onto p r) r p (good_d p n r g)
