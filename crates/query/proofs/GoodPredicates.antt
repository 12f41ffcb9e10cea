-- Predicates and their parts that sane tokens derive are good.
use Rattle.std.proofs.Common.{arith, ◌≤◌, ℕ, zero, suc, Bool, List, [], ◌∷◌, inl, inr}
use Rattle.std.proofs.lemmas.Bool.{cases_lt}
use Rattle.semantics.specs.declared.comparison.Op.{Op}
use Rattle.semantics.specs.declared.truth.Truth.{Truth}
use Rattle.semantics.specs.declared.token.Token.{Token}
use Rattle.semantics.specs.declared.token.Token.TheVariants as tokens
use Rattle.semantics.specs.declared.token.Word.TheVariants as w
use Rattle.semantics.specs.declared.token.Sign.TheVariants as s
use Rattle.semantics.specs.declared.literal.Literal.{Literal}
use Rattle.semantics.specs.declared.aggregate.Aggregate.{Aggregate}
use Rattle.semantics.specs.Syntax.{Expression, SetFunction, Operand, Predicate, or_of, and_of, not_of, truth_test, predicate_forms}
use Rattle.semantics.specs.Canonical.{precedence}
use Rattle.semantics.specs.Leaves.{language_limits, Derivation, IsRepeated, IsName, IsAggregate, IsLiteral, IsOp, IsTruthValue, IsOptional}
use Rattle.semantics.specs.Productions.{IsFunction, IsExpression, IsOperand, IsAtom, IsPrimary, IsTest, IsNegation, IsConjunction, IsDisjunction, IsPredicate, conjunction_of, disjunction_of}
use Rattle.query.proofs.Good.{Each, GoodName, GoodAggregate, GoodFunction, GoodExpression, GoodLiteral, GoodOperand, IsMany, Deeper, Fits, Good, PartsFit, deeper_good}
use Rattle.query.proofs.Sane.{AllSane}

-- What is derived from sane tokens is good, and leaves sane tokens.
abbrev pub Leaves : (A : Type 0) → Derivation A → (A → Type 0) → Type 0
Leaves A D P = (ts r : List Token) (x : A) → D ts x r → AllSane ts → P x × AllSane r

pub repeated_leaves : (A : Type 0) (sep : Token) (D : Derivation A) (P : A → Type 0) → Leaves A D P → {ts r : List Token} {xs : List A}
    → IsRepeated sep D ts xs r → AllSane ts → Each P xs × AllSane r
repeated_leaves A sep D P leaves IsRepeated.none h = (tt, h)
repeated_leaves A sep D P leaves (IsRepeated.more {ts} {mid} {x} d tail) h =
    let first = leaves ts mid x d h.1 in
    let others = repeated_leaves A sep D P leaves tail first.1 in
    ((first.0, others.0), others.1)

-- ---- expressions

pub name_leaves : Leaves (List ℕ) IsName GoodName
name_leaves _ _ _ IsName.name h = h

aggregate_leaves : Leaves Aggregate IsAggregate GoodAggregate
aggregate_leaves _ _ _ IsAggregate.count_rows h = (tt, h.1.1.1.1)
aggregate_leaves _ _ _ IsAggregate.count h = (h.1.1.0, h.1.1.1.1)
aggregate_leaves _ _ _ IsAggregate.count_distinct h = (h.1.1.1.0, h.1.1.1.1.1)
aggregate_leaves _ _ _ IsAggregate.sum h = (h.1.1.0, h.1.1.1.1)
aggregate_leaves _ _ _ IsAggregate.min h = (h.1.1.0, h.1.1.1.1)
aggregate_leaves _ _ _ IsAggregate.max h = (h.1.1.0, h.1.1.1.1)
aggregate_leaves _ _ _ IsAggregate.avg h = (h.1.1.0, h.1.1.1.1)

-- ---- the leaves of predicates

literal_leaves : Leaves Literal IsLiteral GoodLiteral
literal_leaves _ _ _ IsLiteral.integer h = h
literal_leaves _ _ _ IsLiteral.text h = (tt, h.1)
literal_leaves _ _ _ IsLiteral.yes h = (tt, h.1)
literal_leaves _ _ _ IsLiteral.no h = (tt, h.1)

op_leaves : {ts r : List Token} {o : Op} → IsOp ts o r → AllSane ts → AllSane r
op_leaves IsOp.eq h = h.1
op_leaves IsOp.ne h = h.1
op_leaves IsOp.lt h = h.1
op_leaves IsOp.le h = h.1
op_leaves IsOp.gt h = h.1
op_leaves IsOp.ge h = h.1

truth_leaves : {ts r : List Token} {t : Truth} → IsTruthValue ts t r → AllSane ts → AllSane r
truth_leaves IsTruthValue.yes h = h.1
truth_leaves IsTruthValue.no h = h.1
truth_leaves IsTruthValue.unknown h = h.1

mark_leaves : {ts r : List Token} {n : Bool} → IsOptional w.Not ts n r → AllSane ts → AllSane r
mark_leaves IsOptional.none h = h
mark_leaves IsOptional.written h = h.1

-- ---- a predicate that holds together at least so tightly

pub record Tight (top n : ℕ) (p : Predicate) : Type 0 where
  pub fits : (k : ℕ) → k ≤ top → Fits k (precedence p) (Good p) n

tight_good : (top n : ℕ) (p : Predicate) → top ≤ precedence p → Good p n → Tight top n p
tight_good top n p h g = record { fits = λ k room. inr (omega (arith, h, room), g) }

tight_deeper : (n : ℕ) (p : Predicate) → Deeper (Good p) n → Tight 4 n p
tight_deeper n p d = record { fits = λ k room. elim (cases_lt (precedence p) k) [ inl h ↦ inl (h, d) | inr h ↦ inr (h, deeper_good p n d) ] }

tight_less : (a b n : ℕ) (p : Predicate) → b ≤ a → Tight a n p → Tight b n p
tight_less a b n p h t = record { fits = λ k room. t.fits k (omega (arith, h, room)) }

abbrev Loose : ℕ → Derivation Predicate → ℕ → Type 0
Loose top D n = Leaves Predicate D (Tight top n)

-- ---- levels

abbrev FitAt : ℕ → ℕ → Predicate → Type 0
FitAt k n p = Fits k (precedence p) (Good p) n

parts_fit : (k n : ℕ) (ps : List Predicate) → Each (FitAt k n) ps → PartsFit k (predicate_forms ps) n
parts_fit k n [] h = tt
parts_fit k n (p ∷ ps) h = (h.0, parts_fit k n ps h.1)

many_fit : (k n : ℕ) (p q : Predicate) (ps : List Predicate) → FitAt k n p → Each (FitAt k n) (q ∷ ps)
    → IsMany (predicate_forms (p ∷ q ∷ ps)) × PartsFit k (predicate_forms (p ∷ q ∷ ps)) n
many_fit k n p q ps f h = (tt, (f, parts_fit k n (q ∷ ps) h))

and_tight : (n : ℕ) (p : Predicate) (ps : List Predicate) → Tight 2 n p → Each (FitAt 2 n) ps → Tight 1 n (conjunction_of p ps)
and_tight n p [] t h = tight_less 2 1 n p (omega arith) t
and_tight n p (q ∷ ps) t h = tight_good 1 n (and_of (predicate_forms (p ∷ q ∷ ps))) (omega arith) (many_fit 2 n p q ps (t.fits 2 (omega arith)) h)

or_tight : (n : ℕ) (p : Predicate) (ps : List Predicate) → Tight 1 n p → Each (FitAt 1 n) ps → Tight 0 n (disjunction_of p ps)
or_tight n p [] t h = tight_less 1 0 n p (omega arith) t
or_tight n p (q ∷ ps) t h = tight_good 0 n (or_of (predicate_forms (p ∷ q ∷ ps))) (omega arith) (many_fit 1 n p q ps (t.fits 1 (omega arith)) h)

-- The parts behind the first, where each holds together so tightly.
parts_leave : (top : ℕ) {n : ℕ} (sep : Token) (D : Derivation Predicate) → Loose top D n
    → {ts r : List Token} {ps : List Predicate} → IsRepeated sep D ts ps r → AllSane ts → Each (FitAt top n) ps × AllSane r
parts_leave top {n} sep D loose =
    repeated_leaves Predicate sep D (FitAt top n) (λ ts r p d h. let g = loose ts r p d h in (g.0.fits top (omega arith), g.1))

module _ (n : ℕ) (Inner : Derivation Predicate) (inner : Leaves Predicate Inner (λ p. Deeper (Good p) n)) where
  -- ---- expressions

  function_leaves : Leaves SetFunction (IsFunction language_limits Inner) (λ f. GoodFunction f n)
  function_leaves ts r _ (IsFunction.plain {f} d) h = aggregate_leaves ts r f d h
  function_leaves ts r _ (IsFunction.filtered {mid} {f} {p} d i) h =
      let g = aggregate_leaves ts (tokens.Word w.Filter ∷ tokens.Sign s.Open ∷ tokens.Word w.Where ∷ mid) f d h in
      let k = inner mid (tokens.Sign s.Close ∷ r) p i g.1.1.1.1 in
      ((g.0, k.0), k.1.1)

  pub expression_leaves : Leaves Expression (IsExpression language_limits Inner) (λ e. GoodExpression e n)
  expression_leaves _ _ _ IsExpression.name h = h
  expression_leaves _ _ _ (IsExpression.grouping tail few) h =
      let others = repeated_leaves (List ℕ) (tokens.Sign s.Comma) IsName GoodName name_leaves tail h.1.1.1 in
      ((h.1.1.0, others.0, few), others.1.1)
  expression_leaves ts r _ (IsExpression.function {f} d) h = function_leaves ts r f d h

  operand_leaves : Leaves Operand (IsOperand language_limits Inner) (λ x. GoodOperand x n)
  operand_leaves ts r _ (IsOperand.expression {e} d) h = expression_leaves ts r e d h
  operand_leaves ts r _ (IsOperand.literal {a} d) h = literal_leaves ts r a d h

  -- ---- atoms

  atom_leaves : Loose 4 (IsAtom language_limits Inner) n
  atom_leaves _ _ _ (IsAtom.compare {ts} {u} {v} {r} {x} {y} a o b) h =
      let f = operand_leaves ts u x a h in
      let g = operand_leaves v r y b (op_leaves o f.1) in
      (tight_good 4 n _ (omega arith) (f.0, g.0), g.1)
  atom_leaves _ _ _ (IsAtom.between {ts} {u} {v} {mid} {r} {x} {y} {z} a m b c) h =
      let f = operand_leaves ts u x a h in
      let g = operand_leaves v (tokens.Word w.And ∷ mid) y b (mark_leaves m f.1).1 in
      let e = operand_leaves mid r z c g.1.1 in
      (tight_good 4 n _ (omega arith) (f.0, g.0, e.0), e.1)
  atom_leaves _ _ _ (IsAtom.member {ts} {u} {v} {mid} {r} {x} {a = first} i m f tail few) h =
      let g = operand_leaves ts u x i h in
      let k = literal_leaves v mid first f (mark_leaves m g.1).1.1 in
      let j = repeated_leaves Literal (tokens.Sign s.Comma) IsLiteral GoodLiteral literal_leaves tail k.1 in
      (tight_good 4 n _ (omega arith) (g.0, (k.0, j.0, few)), j.1.1)
  atom_leaves _ _ _ (IsAtom.null_test {ts} {u} {r} {x} i m) h =
      let g = operand_leaves ts (tokens.Word w.Is ∷ u) x i h in
      (tight_good 4 n _ (omega arith) g.0, (mark_leaves m g.1.1).1)
  atom_leaves _ _ _ IsAtom.column h = (tight_good 4 n _ (omega arith) h.0, h.1)

  -- ---- predicates

  primary_leaves : Loose 4 (IsPrimary language_limits Inner) n
  primary_leaves _ _ _ (IsPrimary.brackets {ts} {r} {p} i) h = let g = inner ts (tokens.Sign s.Close ∷ r) p i h.1 in (tight_deeper n p g.0, g.1.1)
  primary_leaves _ _ _ (IsPrimary.atom {ts} {r} {p} a) h = atom_leaves ts r p a h

  test_leaves : Loose 3 (IsTest language_limits Inner) n
  test_leaves _ _ _ (IsTest.plain {ts} {r} {p} i) h = let g = primary_leaves ts r p i h in (tight_less 4 3 n p (omega arith) g.0, g.1)
  test_leaves _ _ _ (IsTest.test {ts} {u} {p} {n = b} {t} i m d) h =
      let g = primary_leaves ts (tokens.Word w.Is ∷ u) p i h in
      (tight_good 3 n (truth_test p b t) (omega arith) (g.0.fits 4 (omega arith)), truth_leaves d (mark_leaves m g.1.1))

  negation_leaves : Loose 2 (IsNegation language_limits Inner) n
  negation_leaves _ _ _ (IsNegation.plain {ts} {r} {p} i) h = let g = test_leaves ts r p i h in (tight_less 3 2 n p (omega arith) g.0, g.1)
  negation_leaves _ _ _ (IsNegation.not {ts} {r} {p} i) h =
      let g = test_leaves ts r p i h.1 in (tight_good 2 n (not_of p) (omega arith) (g.0.fits 3 (omega arith)), g.1)

  conjunction_leaves : Loose 1 (IsConjunction language_limits Inner) n
  conjunction_leaves _ _ _ (IsConjunction.parts {ts} {mid} {p} {ps} i tail) h =
      let g = negation_leaves ts mid p i h in
      let j = parts_leave 2 (tokens.Word w.And) (IsNegation language_limits Inner) negation_leaves tail g.1 in
      (and_tight n p ps g.0 j.0, j.1)

  disjunction_leaves : Loose 0 (IsDisjunction language_limits Inner) n
  disjunction_leaves _ _ _ (IsDisjunction.parts {ts} {mid} {p} {ps} i tail) h =
      let g = conjunction_leaves ts mid p i h in
      let j = parts_leave 1 (tokens.Word w.Or) (IsConjunction language_limits Inner) conjunction_leaves tail g.1 in
      (or_tight n p ps g.0 j.0, j.1)

loosest : (has : ℕ) (G : ℕ → Type 0) (n : ℕ) → Fits 0 has G n → G n
loosest has G n (inl h) = absurd (let k = h.0 in omega arith)
loosest has G n (inr h) = h.1

-- A predicate with fewer than n levels of brackets needs fewer than n.
pub predicate_leaves : (n : ℕ) → Leaves Predicate (IsPredicate language_limits n) (λ p. Deeper (Good p) n)
unfolding IsPredicate
predicate_leaves zero ts r p d h = absurd d
predicate_leaves (suc n) ts r p d h =
    let g = disjunction_leaves n (IsPredicate language_limits n) (predicate_leaves n) ts r p d h in
    (loosest (precedence p) (Good p) n (g.0.fits 0 (omega arith)), g.1)
