-- Atoms that derive from tokens are read, and the truth tests behind them.
use Rattle.std.proofs.Common.{arith, length, ◌<◌, ◌≡◌, ℕ, Bool, List, ◌∷◌, None, Ok, refl, ◌∙◌}
use Rattle.semantics.specs.declared.comparison.Op.{Op}
use Rattle.semantics.specs.declared.truth.Truth.{Truth}
use Rattle.semantics.specs.declared.token.Token.{Token}
use Rattle.semantics.specs.declared.token.Token.TheVariants as tokens
use Rattle.semantics.specs.declared.token.Word.TheVariants as w
use Rattle.semantics.specs.declared.token.Sign.TheVariants as s
use Rattle.semantics.specs.declared.aggregate.Aggregate.{Aggregate}
use Rattle.semantics.specs.declared.literal.Literal.{Literal}
use Rattle.semantics.specs.Syntax.{Expression, Operand, Predicate, truth_test, compare, between, member, null_test, column}
use Rattle.semantics.specs.Leaves.{Limits, Derivation, IsRepeated, IsAggregate, IsLiteral, IsOp, IsTruthValue, IsOptional}
use Rattle.query_parser.specs.Inside.Fronts.{is_word, is_sign, after}
use Rattle.query_parser.specs.Inside.LeafSteps.{literal_at, op_at}
use Rattle.query_parser.specs.Inside.Steps.{name_at}
use Rattle.query_parser.specs.Inside.ExpressionSteps.{Inside, expression_at}
use Rattle.query_parser.specs.Inside.AtomSteps.{operand_at, member_after, between_after, negated_after, column_of, atom_after, test_after, is_after, tested_atom_at}
use Rattle.semantics.specs.Productions.{IsFunction, IsExpression, IsOperand, IsAtom}
use Rattle.query_parser.proofs.Agree.{Wider}
use Rattle.query_parser.proofs.CompleteLists.{Shrinks, repeated_short}
use Rattle.query_parser.proofs.CompleteExpressions.{IsComplete, EndsFunction, expression_c, expression_short}
use Rattle.query_parser.proofs.CompleteLeaves.{literal_c, literals_c, op_c, op_no_is, truth_c, truth_no_not, truth_no_null, mark_c, aggregate_no_literal, literal_short, op_short, mark_short}

-- No operand begins with a bracket or with NOT.
pub record BeginsAtom (ts : List Token) : Type 0 where
  pub no_open : after (is_sign s.Open) ts ≡ None
  pub no_not : after (is_word w.Not) ts ≡ None

-- Nothing goes on that would belong to an atom or to its truth test.
pub record EndsTest (r : List Token) : Type 0 where
  pub no_filter : EndsFunction r
  pub no_op : op_at r ≡ None
  pub no_not : after (is_word w.Not) r ≡ None
  pub no_in : after (is_word w.In) r ≡ None
  pub no_between : after (is_word w.Between) r ≡ None
  pub no_is : after (is_word w.Is) r ≡ None

module _ (limits : Limits) (IsInner : Derivation Predicate) (inside : Inside) (wider : Wider limits inside.limits) (inside_c : IsComplete IsInner inside) where
  -- ---- operands

  expression_no_literal : {ts r : List Token} {e : Expression} → IsExpression limits IsInner ts e r → literal_at ts ≡ None
  unfolding literal_at
  expression_no_literal IsExpression.name = refl
  expression_no_literal (IsExpression.grouping b few) = refl
  expression_no_literal (IsExpression.function (IsFunction.plain f)) = aggregate_no_literal f
  expression_no_literal (IsExpression.function (IsFunction.filtered f i)) = aggregate_no_literal f

  operand_c : {ts r : List Token} {x : Operand} → IsOperand limits IsInner ts x r → EndsFunction r → operand_at inside ts ≡ Ok (x, r)
  unfolding operand_at
  operand_c (IsOperand.expression e) q = rw (expression_no_literal e, expression_c limits IsInner inside wider inside_c e q) refl
  operand_c (IsOperand.literal {ts} {r} {a} p) q = rw (literal_c ts r a p) refl

  aggregate_begins : {ts r : List Token} {f : Aggregate} → IsAggregate ts f r → BeginsAtom ts
  aggregate_begins IsAggregate.count_rows = record { no_open = refl; no_not = refl }
  aggregate_begins IsAggregate.count = record { no_open = refl; no_not = refl }
  aggregate_begins IsAggregate.count_distinct = record { no_open = refl; no_not = refl }
  aggregate_begins IsAggregate.sum = record { no_open = refl; no_not = refl }
  aggregate_begins IsAggregate.min = record { no_open = refl; no_not = refl }
  aggregate_begins IsAggregate.max = record { no_open = refl; no_not = refl }
  aggregate_begins IsAggregate.avg = record { no_open = refl; no_not = refl }

  operand_begins : {ts r : List Token} {x : Operand} → IsOperand limits IsInner ts x r → BeginsAtom ts
  operand_begins (IsOperand.expression IsExpression.name) = record { no_open = refl; no_not = refl }
  operand_begins (IsOperand.expression (IsExpression.grouping b few)) = record { no_open = refl; no_not = refl }
  operand_begins (IsOperand.expression (IsExpression.function (IsFunction.plain f))) = aggregate_begins f
  operand_begins (IsOperand.expression (IsExpression.function (IsFunction.filtered f i))) = aggregate_begins f
  operand_begins (IsOperand.literal IsLiteral.integer) = record { no_open = refl; no_not = refl }
  operand_begins (IsOperand.literal IsLiteral.text) = record { no_open = refl; no_not = refl }
  operand_begins (IsOperand.literal IsLiteral.yes) = record { no_open = refl; no_not = refl }
  operand_begins (IsOperand.literal IsLiteral.no) = record { no_open = refl; no_not = refl }

  pub atom_begins : {ts r : List Token} {p : Predicate} → IsAtom limits IsInner ts p r → BeginsAtom ts
  atom_begins (IsAtom.compare x o y) = operand_begins x
  atom_begins (IsAtom.between x n y z) = operand_begins x
  atom_begins (IsAtom.member x n a b few) = operand_begins x
  atom_begins (IsAtom.null_test x n) = operand_begins x
  atom_begins IsAtom.column = record { no_open = refl; no_not = refl }

  -- ---- atoms

  op_no_filter : {ts r : List Token} {o : Op} → IsOp ts o r → EndsFunction ts
  op_no_filter IsOp.eq = refl
  op_no_filter IsOp.ne = refl
  op_no_filter IsOp.lt = refl
  op_no_filter IsOp.le = refl
  op_no_filter IsOp.gt = refl
  op_no_filter IsOp.ge = refl

  -- An atom that its first tokens make complete is read, and then its truth test.
  compare_c : {ts u v r : List Token} {x y : Operand} {o : Op} → IsOperand limits IsInner ts x u → IsOp u o v → IsOperand limits IsInner v y r → EndsFunction r → tested_atom_at inside ts ≡ test_after (compare x o y) r
  unfolding tested_atom_at atom_after
  compare_c x o y q = rw (operand_c x (op_no_filter o), op_no_is o, op_c o, operand_c y q) refl

  between_c : {ts u v mid r : List Token} {x y z : Operand} {n : Bool} → IsOperand limits IsInner ts x u → IsOptional w.Not u n (tokens.Word w.Between ∷ v) → IsOperand limits IsInner v y (tokens.Word w.And ∷ mid) → IsOperand limits IsInner mid z r
      → EndsFunction r → tested_atom_at inside ts ≡ test_after (between x n y z) r
  unfolding tested_atom_at atom_after negated_after between_after op_at
  between_c x IsOptional.none y z q = rw (operand_c x refl, operand_c y refl, operand_c z q) refl
  between_c x IsOptional.written y z q = rw (operand_c x refl, operand_c y refl, operand_c z q) refl

  member_c : {ts u v mid r : List Token} {x : Operand} {n : Bool} {a : Literal} {ls : List Literal}
      → IsOperand limits IsInner ts x u → IsOptional w.Not u n (tokens.Word w.In ∷ tokens.Sign s.Open ∷ v) → IsLiteral v a mid → IsRepeated (tokens.Sign s.Comma) IsLiteral mid ls (tokens.Sign s.Close ∷ r) → length ls < limits.literals
      → tested_atom_at inside ts ≡ test_after (member x n (a ∷ ls)) r
  unfolding tested_atom_at atom_after negated_after member_after op_at
  member_c x IsOptional.none a b few = rw (operand_c x refl, literals_c {most = inside.limits.literals} a b (omega (arith, few, wider.literals))) refl
  member_c x IsOptional.written a b few = rw (operand_c x refl, literals_c {most = inside.limits.literals} a b (omega (arith, few, wider.literals))) refl

  null_c : {ts u r : List Token} {x : Operand} {n : Bool} → IsOperand limits IsInner ts x (tokens.Word w.Is ∷ u) → IsOptional w.Not u n (tokens.Word w.Null ∷ r) → tested_atom_at inside ts ≡ test_after (null_test x n) r
  unfolding tested_atom_at is_after
  null_c x n = rw (operand_c x refl, mark_c n refl) refl

  -- An operand that is a bare name.
  name_c : (n : List ℕ) (r : List Token) → operand_at inside (tokens.Name n ∷ r) ≡ Ok (Operand.expression (Expression.name n), r)
  unfolding operand_at expression_at literal_at name_at
  name_c n r = refl

  column_c : (n : List ℕ) (r : List Token) → EndsTest r → tested_atom_at inside (tokens.Name n ∷ r) ≡ Ok (column n, r)
  unfolding tested_atom_at atom_after column_of test_after
  column_c n r q = rw (name_c n r, q.no_is, q.no_op, q.no_not, q.no_in, q.no_between, q.no_is) refl

  column_test_c : (n : List ℕ) {u v r : List Token} {m : Bool} {t : Truth} → IsOptional w.Not u m v → IsTruthValue v t r → tested_atom_at inside (tokens.Name n ∷ tokens.Word w.Is ∷ u) ≡ Ok (truth_test (column n) m t, r)
  unfolding tested_atom_at is_after column_of
  column_test_c n {u} m t = rw (name_c n (tokens.Word w.Is ∷ u), mark_c m (truth_no_not t), truth_no_null t, truth_c t) refl

  pub test_none : (p : Predicate) (r : List Token) → after (is_word w.Is) r ≡ None → test_after p r ≡ Ok (p, r)
  unfolding test_after
  test_none p r e = rw e refl

  pub test_some : (p : Predicate) {u v r : List Token} {n : Bool} {t : Truth} → IsOptional w.Not u n v → IsTruthValue v t r → test_after p (tokens.Word w.Is ∷ u) ≡ Ok (truth_test p n t, r)
  unfolding test_after
  test_some p m t = rw (mark_c m (truth_no_not t), truth_c t) refl

  -- An atom without a truth test.
  pub atom_c : {ts r : List Token} {p : Predicate} → IsAtom limits IsInner ts p r → EndsTest r → tested_atom_at inside ts ≡ Ok (p, r)
  atom_c (IsAtom.compare x o y) q = compare_c x o y q.no_filter ∙ test_none _ _ q.no_is
  atom_c (IsAtom.between x n y z) q = between_c x n y z q.no_filter ∙ test_none _ _ q.no_is
  atom_c (IsAtom.member x n a b few) q = member_c x n a b few ∙ test_none _ _ q.no_is
  atom_c (IsAtom.null_test x n) q = null_c x n ∙ test_none _ _ q.no_is
  atom_c (IsAtom.column {n} {r}) q = column_c n r q

  -- An atom with its truth test.
  pub atom_test_c : {ts u v r : List Token} {p : Predicate} {n : Bool} {t : Truth} → IsAtom limits IsInner ts p (tokens.Word w.Is ∷ u) → IsOptional w.Not u n v → IsTruthValue v t r → tested_atom_at inside ts ≡ Ok (truth_test p n t, r)
  atom_test_c (IsAtom.compare x o y) m t = compare_c x o y refl ∙ test_some _ m t
  atom_test_c (IsAtom.between x n y z) m t = between_c x n y z refl ∙ test_some _ m t
  atom_test_c (IsAtom.member x n a b few) m t = member_c x n a b few ∙ test_some _ m t
  atom_test_c (IsAtom.null_test x n) m t = null_c x n ∙ test_some _ m t
  atom_test_c (IsAtom.column {n}) m t = column_test_c n m t

-- ---- what an atom takes

module _ (limits : Limits) (IsInner : Derivation Predicate) (short : Shrinks IsInner) where
  operand_short : Shrinks (IsOperand limits IsInner)
  operand_short _ _ _ (IsOperand.expression {ts} {r} {e} p) = expression_short limits IsInner short ts r e p
  operand_short _ _ _ (IsOperand.literal {ts} {r} {a} p) = literal_short ts r a p

  pub atom_short : Shrinks (IsAtom limits IsInner)
  atom_short _ _ _ (IsAtom.compare x o y) = omega (arith, operand_short _ _ _ x, op_short _ _ _ o, operand_short _ _ _ y)
  atom_short _ _ _ (IsAtom.between x n y z) = omega (arith, operand_short _ _ _ x, mark_short _ _ _ n, operand_short _ _ _ y, operand_short _ _ _ z)
  atom_short _ _ _ (IsAtom.member x n a b few) = omega (arith, operand_short _ _ _ x, mark_short _ _ _ n, literal_short _ _ _ a, repeated_short (tokens.Sign s.Comma) IsLiteral literal_short b)
  atom_short _ _ _ (IsAtom.null_test x n) = omega (arith, operand_short _ _ _ x, mark_short _ _ _ n)
  atom_short _ _ _ IsAtom.column = omega arith
