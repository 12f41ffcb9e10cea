-- The readers of expressions and predicates within narrow and within wider limits agree.
use Rattle.std.proofs.Common.{arith, length, ◌≤◌, ◌≡◌, ℕ, zero, suc, Bool, true, false, cond, List, [], ◌∷◌, Result, refl}
use Rattle.semantics.specs.declared.token.Token.{Token}
use Rattle.semantics.specs.declared.token.Token.TheVariants as tokens
use Rattle.semantics.specs.declared.token.Word.TheVariants as w
use Rattle.semantics.specs.declared.token.Sign.TheVariants as s
use Rattle.semantics.specs.Syntax.{Operand}
use Rattle.semantics.specs.Leaves.{Limits}
use Rattle.query_parser.specs.Inside.Stops.{Stop}
use Rattle.query_parser.specs.Inside.Fronts.{is_word, is_sign, after}
use Rattle.query_parser.specs.Inside.Steps.{unexpected_at, over, name_at}
use Rattle.query_parser.specs.Inside.LeafSteps.{aggregate_at, literal_at, op_at}
use Rattle.query_parser.specs.Inside.ExpressionSteps.{Inside, filter_at, function_at, expression_at, begins_expression}
use Rattle.query_parser.specs.Inside.AtomSteps.{operand_at, member_after, between_after, negated_after, atom_after, tested_atom_at}
use Rattle.query_parser.specs.Inside.PredicateSteps.{test_at, negation_at, conjunction_at, disjunction_at, predicate_at, any_front, has_level, inside_of}
use Rattle.query_parser.proofs.Agree.{Wider, Agrees, agrees_bind, agrees_choose, agrees_all, arguments_agree, literals_agree}

-- Where no level is left, it is too much.
agrees_level : {A : Type 0} (left wide_left : Bool) → (left ≡ true → wide_left ≡ true) → {o p : Result A Stop} (ts : List Token) → Agrees o p → Agrees (cond left o (over ts)) (cond wide_left p (over ts))
agrees_level false wide_left h ts k = Agrees.over
agrees_level true true h ts k = k
agrees_level true false h ts k = absurd (let e = h refl in cc)

-- The literals behind IN.
member_agrees : (n m : ℕ) → n ≤ m → (x : Operand) (b : Bool) (ts : List Token) → Agrees (member_after n x b ts) (member_after m x b ts)
unfolding member_after
member_agrees n m few x b ts = agrees_bind (literals_agree n m few ts) (λ ls. Agrees.same)

module _ (inside wide : Inside) (wider : Wider inside.limits wide.limits) (level : inside.has_level ≡ true → wide.has_level ≡ true) (read : (ts : List Token) → Agrees (inside.read ts) (wide.read ts)) where
  -- ---- expressions

  filter_agrees : (ts : List Token) → Agrees (filter_at inside ts) (filter_at wide ts)
  unfolding filter_at
  filter_agrees ts = agrees_bind Agrees.same (λ a. agrees_level inside.has_level wide.has_level level a (agrees_bind Agrees.same (λ b. agrees_bind (read b) (λ p. Agrees.same))))

  function_agrees : (ts : List Token) → Agrees (function_at inside ts) (function_at wide ts)
  unfolding function_at
  function_agrees ts = agrees_bind {o = aggregate_at ts} Agrees.same (λ f. agrees_choose (after (is_word w.Filter) f.1) Agrees.same (λ a. agrees_bind (filter_agrees a) (λ p. Agrees.same)))

  pub expression_agrees : (ts : List Token) → Agrees (expression_at inside ts) (expression_at wide ts)
  unfolding expression_at
  expression_agrees ts = agrees_choose (name_at ts)
      (agrees_choose (after (is_word w.Grouping) ts)
      (agrees_bind (function_agrees ts) (λ f. Agrees.same))
      (λ a. agrees_bind (arguments_agree inside.limits.arguments wide.limits.arguments wider.arguments a) (λ ns. Agrees.same)))
      (λ n. Agrees.same)

  -- ---- atoms

  operand_agrees : (ts : List Token) → Agrees (operand_at inside ts) (operand_at wide ts)
  unfolding operand_at
  operand_agrees ts = agrees_choose (literal_at ts) (agrees_bind (expression_agrees ts) (λ e. Agrees.same)) (λ a. Agrees.same)

  between_agrees : (x : Operand) (n : Bool) (ts : List Token) → Agrees (between_after inside x n ts) (between_after wide x n ts)
  unfolding between_after
  between_agrees x n ts = agrees_bind (operand_agrees ts) (λ y. agrees_bind Agrees.same (λ a. agrees_bind (operand_agrees a) (λ z. Agrees.same)))

  negated_agrees : (x : Operand) (ts : List Token) → Agrees (negated_after inside x ts) (negated_after wide x ts)
  unfolding negated_after
  negated_agrees x ts = agrees_choose (after (is_word w.In) ts)
      (agrees_bind Agrees.same (λ a. between_agrees x true a))
      (λ a. member_agrees inside.limits.literals wide.limits.literals wider.literals x true a)

  atom_agrees : (x : Operand) (ts : List Token) → Agrees (atom_after inside x ts) (atom_after wide x ts)
  unfolding atom_after
  atom_agrees x ts = agrees_choose (op_at ts)
      (agrees_choose (after (is_word w.Not) ts)
      (agrees_choose (after (is_word w.In) ts)
      (agrees_choose (after (is_word w.Between) ts) Agrees.same (λ a. between_agrees x false a))
      (λ a. member_agrees inside.limits.literals wide.limits.literals wider.literals x false a))
      (λ a. negated_agrees x a))
      (λ o. agrees_bind (operand_agrees o.1) (λ y. Agrees.same))

  tested_atom_agrees : (ts : List Token) → Agrees (tested_atom_at inside ts) (tested_atom_at wide ts)
  unfolding tested_atom_at
  tested_atom_agrees ts = agrees_bind (operand_agrees ts) (λ x. agrees_choose (after (is_word w.Is) x.1) (agrees_bind (atom_agrees x.0 x.1) (λ p. Agrees.same)) (λ a. Agrees.same))

  -- ---- predicates

  test_agrees : (ts : List Token) → Agrees (test_at inside ts) (test_at wide ts)
  unfolding test_at
  test_agrees ts = agrees_choose (after (is_sign s.Open) ts) (tested_atom_agrees ts) (λ a. agrees_bind (read a) (λ p. Agrees.same))

  negation_agrees : (ts : List Token) → Agrees (negation_at inside ts) (negation_at wide ts)
  unfolding negation_at
  negation_agrees ts = agrees_choose (after (is_word w.Not) ts) (test_agrees ts) (λ a. agrees_bind (test_agrees a) (λ p. Agrees.same))

  conjunction_agrees : (ts : List Token) → Agrees (conjunction_at inside ts) (conjunction_at wide ts)
  unfolding conjunction_at
  conjunction_agrees ts = agrees_bind (negation_agrees ts) (λ p. agrees_bind (agrees_all (is_word w.And) any_front (negation_at inside) (negation_at wide) negation_agrees (length p.1) p.1) (λ ps. Agrees.same))

  disjunction_agrees : (ts : List Token) → Agrees (disjunction_at inside ts) (disjunction_at wide ts)
  unfolding disjunction_at
  disjunction_agrees ts = agrees_bind (conjunction_agrees ts) (λ p. agrees_bind (agrees_all (is_word w.Or) any_front (conjunction_at inside) (conjunction_at wide) conjunction_agrees (length p.1) p.1) (λ ps. Agrees.same))

-- Where a level is left, one is left where there may be more of them.
pub level_agrees : (n m : ℕ) → n ≤ m → has_level n ≡ true → has_level m ≡ true
unfolding has_level
level_agrees zero m few e = absurd cc
level_agrees (suc n) zero few e = absurd (omega arith)
level_agrees (suc n) (suc m) few e = refl

pub predicate_agrees : (narrow wide : Limits) → Wider narrow wide → (n m : ℕ) → n ≤ m → (ts : List Token) → Agrees (predicate_at narrow n ts) (predicate_at wide m ts)
unfolding predicate_at
predicate_agrees narrow wide wider zero m few ts = Agrees.over
predicate_agrees narrow wide wider (suc n) zero few ts = absurd (omega arith)
predicate_agrees narrow wide wider (suc n) (suc m) few ts =
    let fewer : n ≤ m = omega arith in
    disjunction_agrees (inside_of narrow n) (inside_of wide m) wider (level_agrees n m fewer) (λ us. predicate_agrees narrow wide wider n m fewer us) ts

-- An expression with at most n levels of brackets in its FILTER, and one with more of them.
pub inside_agrees : (narrow wide : Limits) → Wider narrow wide → (n m : ℕ) → n ≤ m → (ts : List Token) → Agrees (expression_at (inside_of narrow n) ts) (expression_at (inside_of wide m) ts)
inside_agrees narrow wide wider n m few ts = expression_agrees (inside_of narrow n) (inside_of wide m) wider (level_agrees n m few) (λ us. predicate_agrees narrow wide wider n m few us) ts

-- Where no expression begins, the first token is not expected.
pub expression_stuck : (inside : Inside) (ts : List Token) → begins_expression ts ≡ false → expression_at inside ts ≡ unexpected_at ts
unfolding begins_expression expression_at function_at aggregate_at name_at
expression_stuck inside [] e = refl
expression_stuck inside (tokens.Name n ∷ ts) e = absurd cc
expression_stuck inside (tokens.Word w.Grouping ∷ ts) e = absurd cc
expression_stuck inside (tokens.Word w.Count ∷ ts) e = absurd cc
expression_stuck inside (tokens.Word w.Sum ∷ ts) e = absurd cc
expression_stuck inside (tokens.Word w.Min ∷ ts) e = absurd cc
expression_stuck inside (tokens.Word w.Max ∷ ts) e = absurd cc
expression_stuck inside (tokens.Word w.Avg ∷ ts) e = absurd cc
expression_stuck inside (t ∷ ts) e = refl
