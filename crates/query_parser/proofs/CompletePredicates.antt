-- Predicates that derive from tokens are read.
use Rattle.std.proofs.Common.{arith, ◌≤◌, ◌≡◌, ℕ, zero, suc, List, [], ◌∷◌, true, None, Ok, refl}
use Rattle.semantics.specs.declared.token.Token.{Token}
use Rattle.semantics.specs.declared.token.Token.TheVariants as tokens
use Rattle.semantics.specs.declared.token.Word.TheVariants as w
use Rattle.semantics.specs.declared.token.Sign.TheVariants as s
use Rattle.semantics.specs.Syntax.{Predicate}
use Rattle.semantics.specs.Leaves.{Limits, Derivation}
use Rattle.query_parser.specs.Inside.Fronts.{is_word, after}
use Rattle.query_parser.specs.Inside.LeafSteps.{op_at}
use Rattle.query_parser.specs.Inside.ExpressionSteps.{Inside}
use Rattle.query_parser.specs.Inside.PredicateSteps.{test_at, negation_at, conjunction_at, disjunction_at, predicate_at, any_front, has_level, inside_of}
use Rattle.semantics.specs.Productions.{IsPrimary, IsTest, IsNegation, IsConjunction, IsDisjunction, IsPredicate}
use Rattle.query_parser.proofs.Agree.{Wider}
use Rattle.query_parser.proofs.CompleteLists.{Shrinks, repeated_short, repeated_follow, unlimited_c}
use Rattle.query_parser.proofs.CompleteLeaves.{truth_short, mark_short}
use Rattle.query_parser.proofs.CompleteExpressions.{IsComplete}
use Rattle.query_parser.proofs.CompleteAtoms.{EndsTest, atom_begins, atom_c, atom_test_c, test_none, test_some, atom_short}

-- ---- what may stand behind a predicate and its parts

pub record EndsConjunction (r : List Token) : Type 0 where
  pub test : EndsTest r
  pub no_and : after (is_word w.And) r ≡ None

pub record EndsPredicate (r : List Token) : Type 0 where
  pub conjunction : EndsConjunction r
  pub no_or : after (is_word w.Or) r ≡ None

and_ends : (ts : List Token) → EndsTest (tokens.Word w.And ∷ ts)
unfolding op_at
and_ends ts = record { no_filter = refl; no_op = refl; no_not = refl; no_in = refl; no_between = refl; no_is = refl }

or_ends : (ts : List Token) → EndsConjunction (tokens.Word w.Or ∷ ts)
unfolding op_at
or_ends ts = record { test = record { no_filter = refl; no_op = refl; no_not = refl; no_in = refl; no_between = refl; no_is = refl }; no_and = refl }

close_ends : (ts : List Token) → EndsPredicate (tokens.Sign s.Close ∷ ts)
unfolding op_at
close_ends ts = record { conjunction = record { test = record { no_filter = refl; no_op = refl; no_not = refl; no_in = refl; no_between = refl; no_is = refl }; no_and = refl }; no_or = refl }

pub group_ends : (ts : List Token) → EndsPredicate (tokens.Word w.Group ∷ ts)
unfolding op_at
group_ends ts = record { conjunction = record { test = record { no_filter = refl; no_op = refl; no_not = refl; no_in = refl; no_between = refl; no_is = refl }; no_and = refl }; no_or = refl }

pub having_ends : (ts : List Token) → EndsPredicate (tokens.Word w.Having ∷ ts)
unfolding op_at
having_ends ts = record { conjunction = record { test = record { no_filter = refl; no_op = refl; no_not = refl; no_in = refl; no_between = refl; no_is = refl }; no_and = refl }; no_or = refl }

pub order_ends : (ts : List Token) → EndsPredicate (tokens.Word w.Order ∷ ts)
unfolding op_at
order_ends ts = record { conjunction = record { test = record { no_filter = refl; no_op = refl; no_not = refl; no_in = refl; no_between = refl; no_is = refl }; no_and = refl }; no_or = refl }

pub nil_ends : EndsPredicate []
unfolding op_at
nil_ends = record { conjunction = record { test = record { no_filter = refl; no_op = refl; no_not = refl; no_in = refl; no_between = refl; no_is = refl }; no_and = refl }; no_or = refl }

-- ---- predicates

module _ (limits : Limits) (IsInner : Derivation Predicate) (inside : Inside) (wider : Wider limits inside.limits) (inside_c : IsComplete IsInner inside) where
  test_c : {ts r : List Token} {p : Predicate} → IsTest limits IsInner ts p r → EndsTest r → test_at inside ts ≡ Ok (p, r)
  unfolding test_at
  test_c (IsTest.plain (IsPrimary.brackets {ts} {r} {p} i)) q = rw ((inside_c ts r p i).read, test_none limits IsInner inside wider inside_c p r q.no_is) refl
  test_c (IsTest.plain (IsPrimary.atom a)) q = rw ((atom_begins limits IsInner inside wider inside_c a).no_open, atom_c limits IsInner inside wider inside_c a q) refl
  test_c (IsTest.test {u = u} (IsPrimary.brackets {ts} {p = p} i) m t) q = rw ((inside_c ts (tokens.Word w.Is ∷ u) p i).read, test_some limits IsInner inside wider inside_c p m t) refl
  test_c (IsTest.test (IsPrimary.atom a) m t) q = rw ((atom_begins limits IsInner inside wider inside_c a).no_open, atom_test_c limits IsInner inside wider inside_c a m t) refl

  primary_no_not : {ts r : List Token} {p : Predicate} → IsPrimary limits IsInner ts p r → after (is_word w.Not) ts ≡ None
  primary_no_not (IsPrimary.brackets i) = refl
  primary_no_not (IsPrimary.atom a) = (atom_begins limits IsInner inside wider inside_c a).no_not

  test_no_not : {ts r : List Token} {p : Predicate} → IsTest limits IsInner ts p r → after (is_word w.Not) ts ≡ None
  test_no_not (IsTest.plain i) = primary_no_not i
  test_no_not (IsTest.test i m t) = primary_no_not i

  negation_c : {ts r : List Token} {p : Predicate} → IsNegation limits IsInner ts p r → EndsTest r → negation_at inside ts ≡ Ok (p, r)
  unfolding negation_at
  negation_c (IsNegation.plain i) q = rw (test_no_not i, test_c i q) refl
  negation_c (IsNegation.not i) q = rw (test_c i q) refl

  conjunction_c : Shrinks (IsNegation limits IsInner) → {ts r : List Token} {p : Predicate} → IsConjunction limits IsInner ts p r → EndsConjunction r → conjunction_at inside ts ≡ Ok (p, r)
  unfolding conjunction_at
  conjunction_c short (IsConjunction.parts {ts} {mid} {r} {p} {ps} i b) q =
      rw (
        negation_c i (repeated_follow (tokens.Word w.And) (IsNegation limits IsInner) EndsTest and_ends b q.test),
        unlimited_c (tokens.Word w.And) (is_word w.And) any_front (IsNegation limits IsInner) (negation_at inside) EndsTest refl and_ends (λ _ _ _ j k. negation_c j k) short b q.test q.no_and,
      ) refl

  disjunction_c : Shrinks (IsNegation limits IsInner) → Shrinks (IsConjunction limits IsInner) → {ts r : List Token} {p : Predicate} → IsDisjunction limits IsInner ts p r → EndsPredicate r → disjunction_at inside ts ≡ Ok (p, r)
  unfolding disjunction_at
  disjunction_c short short_parts (IsDisjunction.parts {ts} {mid} {r} {p} {ps} i b) q =
      rw (
        conjunction_c short i (repeated_follow (tokens.Word w.Or) (IsConjunction limits IsInner) EndsConjunction or_ends b q.conjunction),
        unlimited_c (tokens.Word w.Or) (is_word w.Or) any_front (IsConjunction limits IsInner) (conjunction_at inside) EndsConjunction refl or_ends (λ _ _ _ j k. conjunction_c short j k) short_parts b q.conjunction q.no_or,
      ) refl

-- ---- what a predicate takes

module _ (limits : Limits) (IsInner : Derivation Predicate) (short : Shrinks IsInner) where
  primary_short : Shrinks (IsPrimary limits IsInner)
  primary_short _ _ _ (IsPrimary.brackets {ts} {r} {p} i) = omega (arith, short ts (tokens.Sign s.Close ∷ r) p i)
  primary_short _ _ _ (IsPrimary.atom a) = atom_short limits IsInner short _ _ _ a

  test_short : Shrinks (IsTest limits IsInner)
  test_short _ _ _ (IsTest.plain i) = primary_short _ _ _ i
  test_short _ _ _ (IsTest.test i m t) = omega (arith, primary_short _ _ _ i, mark_short _ _ _ m, truth_short _ _ _ t)

  negation_short : Shrinks (IsNegation limits IsInner)
  negation_short _ _ _ (IsNegation.plain i) = test_short _ _ _ i
  negation_short _ _ _ (IsNegation.not i) = omega (arith, test_short _ _ _ i)

  conjunction_short : Shrinks (IsConjunction limits IsInner)
  conjunction_short _ _ _ (IsConjunction.parts i b) = omega (arith, negation_short _ _ _ i, repeated_short (tokens.Word w.And) (IsNegation limits IsInner) negation_short b)

  disjunction_short : Shrinks (IsDisjunction limits IsInner)
  disjunction_short _ _ _ (IsDisjunction.parts i b) = omega (arith, conjunction_short _ _ _ i, repeated_short (tokens.Word w.Or) (IsConjunction limits IsInner) conjunction_short b)

pub predicate_short : (limits : Limits) (n : ℕ) → Shrinks (IsPredicate limits n)
unfolding IsPredicate
predicate_short limits zero ts r p i = absurd i
predicate_short limits (suc n) ts r p i = disjunction_short limits (IsPredicate limits n) (predicate_short limits n) ts r p i

-- Where a predicate derives, a level of brackets is left, and where more of them may be.
level_left : (limits : Limits) (n m : ℕ) → n ≤ m → (ts r : List Token) (p : Predicate) → IsPredicate limits n ts p r → has_level m ≡ true
unfolding IsPredicate has_level
level_left limits zero m few ts r p i = absurd i
level_left limits (suc n) zero few ts r p i = absurd (omega arith)
level_left limits (suc n) (suc m) few ts r p i = refl

-- A predicate that derives within some limits is read within wider ones.
pub predicate_c : (narrow wide : Limits) → Wider narrow wide → (n m : ℕ) → n ≤ m → (ts r : List Token) (p : Predicate) → IsPredicate narrow n ts p r → EndsPredicate r → predicate_at wide m ts ≡ Ok (p, r)
unfolding IsPredicate predicate_at
predicate_c narrow wide wider zero m few ts r p i q = absurd i
predicate_c narrow wide wider (suc n) zero few ts r p i q = absurd (omega arith)
predicate_c narrow wide wider (suc n) (suc m) few ts r p i q =
    let fewer : n ≤ m = omega arith in
    let inside_c : IsComplete (IsPredicate narrow n) (inside_of wide m) = λ us v x j. record { has_level = level_left narrow n m fewer us (tokens.Sign s.Close ∷ v) x j; read = predicate_c narrow wide wider n m fewer us (tokens.Sign s.Close ∷ v) x j (close_ends v) } in
    disjunction_c narrow (IsPredicate narrow n) (inside_of wide m) wider inside_c (negation_short narrow (IsPredicate narrow n) (predicate_short narrow n)) (conjunction_short narrow (IsPredicate narrow n) (predicate_short narrow n)) i q

-- A predicate that derives before a closing bracket is read, as in the brackets of a FILTER.
pub bracketed_c : (narrow wide : Limits) → Wider narrow wide → (n m : ℕ) → n ≤ m → IsComplete (IsPredicate narrow n) (inside_of wide m)
bracketed_c narrow wide wider n m few ts r p i = record { has_level = level_left narrow n m few ts (tokens.Sign s.Close ∷ r) p i; read = predicate_c narrow wide wider n m few ts (tokens.Sign s.Close ∷ r) p i (close_ends r) }
