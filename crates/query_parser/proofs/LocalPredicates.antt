-- The readers of expressions and predicates are local.
use Rattle.std.proofs.Common.{length, ◌≡◌, ℕ, zero, suc, Bool, true, false, cond, List, Option, Some, None, Ok, refl}
use Rattle.semantics.specs.declared.token.Token.{Token}
use Rattle.semantics.specs.declared.token.Token.TheVariants as tokens
use Rattle.semantics.specs.declared.token.Word.TheVariants as w
use Rattle.semantics.specs.declared.token.Sign.TheVariants as s
use Rattle.query_lexer.specs.Options.{choose}
use Rattle.semantics.specs.Syntax.{Expression, Operand, Predicate, over_all, over_filtered, truth_test, compare, between, member, null_test, column, not_of}
use Rattle.semantics.specs.Productions.{conjunction_of, disjunction_of}
use Rattle.semantics.specs.Leaves.{Limits}
use Rattle.values.specs.Results.{◌>>=◌}
use Rattle.query_parser.specs.Inside.Fronts.{is_word, is_sign, after}
use Rattle.query_parser.specs.Inside.Steps.{Reader, over, found_or_unexpected, more, name_at}
use Rattle.query_parser.specs.Inside.LeafSteps.{aggregate_at, arguments_at, literal_at, literals_at, op_at, truth_at, mark_at}
use Rattle.query_parser.specs.Inside.ExpressionSteps.{Inside, filter_at, function_at, expression_at, begins_expression}
use Rattle.query_parser.specs.Inside.AtomSteps.{operand_at, member_after, between_after, negated_after, column_of, atom_after, test_after, is_after, tested_atom_at}
use Rattle.query_parser.specs.Inside.PredicateSteps.{test_at, negation_at, conjunction_at, disjunction_at, predicate_at, any_front, inside_of}
use Rattle.query_parser.proofs.Local.{Local, local_loose, local_as, local_ok, local_stuck, local_over, local_choose, local_front, local_bind, local_found_or_stuck, local_all}
use Rattle.query_parser.proofs.LocalLeaves.{TellsByFront, local_closed, name_front, aggregate_l, arguments_l, literal_front, op_front, literals_l, truth_l}

-- What a value becomes.
pub local_made : {A B : Type 0} {c : Bool} (f : Reader A) (make : A → B) → Local c f → Local c (λ ts. f ts >>= λ x. Ok (make x.0, x.1))
local_made f make lf = local_bind f (λ x us. Ok (make x, us)) lf (λ x. local_ok (make x))

pub any_told : TellsByFront any_front
any_told t us vs = refl

-- Parts behind a first one, as many as there are.
pub local_joined : {A B : Type 0} (sep : Token → Bool) (f : Reader A) (make : A → List A → B) → Local true f → Local true (λ ts. f ts >>= λ p. more sep any_front f (length p.1) p.1 >>= λ ps. Ok (make p.0 ps.0, ps.1))
local_joined sep f make lf = local_bind f (λ x us. more sep any_front f (length us) us >>= λ ps. Ok (make x ps.0, ps.1)) lf
    (λ x. local_bind (λ us. more sep any_front f (length us) us) (λ xs us. Ok (make x xs, us)) (local_all sep any_front f any_told lf) (λ xs. local_ok (make x xs)))

-- NOT, or no NOT, and what is read behind it.
mark_way : {A : Type 0} (g : Bool → Reader A) (ts : List Token) → g (mark_at ts).0 (mark_at ts).1 ≡ choose (after (is_word w.Not) ts) (g false ts) (λ a. g true a)
unfolding mark_at
mark_way {A} g ts = of_way (after (is_word w.Not) ts) where
  of_way : (o : Option (List Token)) → g (choose {B = Bool × List Token} o (false, ts) (λ rest. (true, rest))).0 (choose {B = Bool × List Token} o (false, ts) (λ rest. (true, rest))).1 ≡ choose o (g false ts) (λ a. g true a)
  of_way None = refl
  of_way (Some r) = refl

local_mark : {A : Type 0} (g : Bool → Reader A) → ((n : Bool) → Local true (g n)) → Local true (λ ts. g (mark_at ts).0 (mark_at ts).1)
local_mark g lg = local_as (λ ts. g (mark_at ts).0 (mark_at ts).1) (λ ts. choose (after (is_word w.Not) ts) (g false ts) (λ a. g true a)) (mark_way g) (local_choose (is_word w.Not) (g false) (g true) (lg false) (lg true))

-- ---- atoms

member_l : (most : ℕ) (x : Operand) (n : Bool) → Local true (member_after most x n)
unfolding member_after
member_l most x n = local_made (literals_at most) (λ ls. member x n ls) (literals_l most)

column_l : (x : Operand) → Local true (λ ts. column_of x ts >>= λ p. Ok (p, ts))
unfolding column_of
column_l (Operand.expression (Expression.name n)) = local_ok (column n)
column_l (Operand.expression (Expression.grouping ns)) = local_stuck
column_l (Operand.expression (Expression.function f)) = local_stuck
column_l (Operand.literal a) = local_stuck

-- A truth value behind a predicate and its mark.
truth_of : (p : Predicate) (n : Bool) → Local true (λ ts. truth_at ts >>= λ t. Ok (truth_test p n t.0, t.1))
truth_of p n = local_made truth_at (λ t. truth_test p n t) truth_l

test_after_l : (p : Predicate) → Local true (test_after p)
unfolding test_after
test_after_l p = local_choose (is_word w.Is) (λ ts. Ok (p, ts)) (λ a. truth_at (mark_at a).1 >>= λ t. Ok (truth_test p (mark_at a).0 t.0, t.1)) (local_ok p)
    (local_mark (λ n us. truth_at us >>= λ t. Ok (truth_test p n t.0, t.1)) (truth_of p))

column_truth_l : (x : Operand) (n : Bool) → Local true (λ ts. column_of x ts >>= λ p. truth_at ts >>= λ t. Ok (truth_test p n t.0, t.1))
unfolding column_of
column_truth_l (Operand.expression (Expression.name c)) n = truth_of (column c) n
column_truth_l (Operand.expression (Expression.grouping ns)) n = local_stuck
column_truth_l (Operand.expression (Expression.function f)) n = local_stuck
column_truth_l (Operand.literal a) n = local_stuck

is_l : (x : Operand) → Local true (is_after x)
unfolding is_after
is_l x = local_mark (λ n us. choose (after (is_word w.Null) us) (column_of x us >>= λ p. truth_at us >>= λ t. Ok (truth_test p n t.0, t.1)) (λ a. test_after (null_test x n) a))
    (λ n. local_choose (is_word w.Null) (λ us. column_of x us >>= λ p. truth_at us >>= λ t. Ok (truth_test p n t.0, t.1)) (test_after (null_test x n)) (column_truth_l x n) (test_after_l (null_test x n)))

module _ (inside : Inside) (inside_l : Local false inside.read) where
  -- ---- expressions

  -- What stands in the brackets of a FILTER, where a level is left and where none is.
  within_l : (left : Bool) → Local false (λ a. cond left (found_or_unexpected (after (is_word w.Where)) a >>= λ b. inside.read b >>= λ p. found_or_unexpected (after (is_sign s.Close)) p.1 >>= λ rest. Ok (p.0, rest)) (over a))
  within_l true = local_loose (λ a. found_or_unexpected (after (is_word w.Where)) a >>= λ b. inside.read b >>= λ p. found_or_unexpected (after (is_sign s.Close)) p.1 >>= λ rest. Ok (p.0, rest)) (local_found_or_stuck (is_word w.Where) (λ b. inside.read b >>= λ p. found_or_unexpected (after (is_sign s.Close)) p.1 >>= λ rest. Ok (p.0, rest))
      (local_bind inside.read (λ p us. found_or_unexpected (after (is_sign s.Close)) us >>= λ rest. Ok (p, rest)) inside_l local_closed))
  within_l false = local_over

  filter_l : Local true (filter_at inside)
  unfolding filter_at
  filter_l = local_found_or_stuck (is_sign s.Open) (λ a. cond inside.has_level (found_or_unexpected (after (is_word w.Where)) a >>= λ b. inside.read b >>= λ p. found_or_unexpected (after (is_sign s.Close)) p.1 >>= λ rest. Ok (p.0, rest)) (over a)) (within_l inside.has_level)

  function_l : Local true (function_at inside)
  unfolding function_at
  function_l = local_bind aggregate_at (λ f us. choose (after (is_word w.Filter) us) (Ok (over_all f, us)) (λ a. filter_at inside a >>= λ p. Ok (over_filtered f p.0, p.1))) aggregate_l
      (λ f. local_choose (is_word w.Filter) (λ us. Ok (over_all f, us)) (λ a. filter_at inside a >>= λ p. Ok (over_filtered f p.0, p.1)) (local_ok (over_all f)) (local_made (filter_at inside) (λ p. over_filtered f p) filter_l))

  pub expression_l : Local true (expression_at inside)
  unfolding expression_at
  expression_l = local_front name_at (λ ts. choose (after (is_word w.Grouping) ts) (function_at inside ts >>= λ f. Ok (Expression.function f.0, f.1)) (λ a. arguments_at inside.limits.arguments a >>= λ ns. Ok (Expression.grouping ns.0, ns.1)))
      (λ n us. Ok (Expression.name n, us)) name_front
      (local_choose (is_word w.Grouping) (λ ts. function_at inside ts >>= λ f. Ok (Expression.function f.0, f.1)) (λ a. arguments_at inside.limits.arguments a >>= λ ns. Ok (Expression.grouping ns.0, ns.1))
      (local_made (function_at inside) (λ f. Expression.function f) function_l) (local_made (arguments_at inside.limits.arguments) (λ ns. Expression.grouping ns) (arguments_l inside.limits.arguments)))
      (λ n. local_ok (Expression.name n))

  operand_l : Local true (operand_at inside)
  unfolding operand_at
  operand_l = local_front literal_at (λ ts. expression_at inside ts >>= λ e. Ok (Operand.expression e.0, e.1)) (λ a us. Ok (Operand.literal a, us)) literal_front
      (local_made (expression_at inside) (λ e. Operand.expression e) expression_l) (λ a. local_ok (Operand.literal a))

  -- ---- atoms

  between_l : (x : Operand) (n : Bool) → Local true (between_after inside x n)
  unfolding between_after
  between_l x n = local_bind (operand_at inside) (λ y us. found_or_unexpected (after (is_word w.And)) us >>= λ a. operand_at inside a >>= λ z. Ok (between x n y z.0, z.1)) operand_l
      (λ y. local_found_or_stuck (is_word w.And) (λ a. operand_at inside a >>= λ z. Ok (between x n y z.0, z.1)) (local_made (operand_at inside) (λ z. between x n y z) operand_l))

  negated_l : (x : Operand) → Local true (negated_after inside x)
  unfolding negated_after
  negated_l x = local_choose (is_word w.In) (λ ts. found_or_unexpected (after (is_word w.Between)) ts >>= λ a. between_after inside x true a) (λ a. member_after inside.limits.literals x true a)
      (local_found_or_stuck (is_word w.Between) (λ a. between_after inside x true a) (between_l x true)) (member_l inside.limits.literals x true)

  atom_l : (x : Operand) → Local true (atom_after inside x)
  unfolding atom_after
  atom_l x = local_front op_at
      (λ ts. choose (after (is_word w.Not) ts) (choose (after (is_word w.In) ts) (choose (after (is_word w.Between) ts) (column_of x ts >>= λ p. Ok (p, ts)) (λ a. between_after inside x false a)) (λ a. member_after inside.limits.literals x false a)) (λ a. negated_after inside x a))
      (λ o us. operand_at inside us >>= λ y. Ok (compare x o y.0, y.1)) op_front
      (local_choose (is_word w.Not) (λ ts. choose (after (is_word w.In) ts) (choose (after (is_word w.Between) ts) (column_of x ts >>= λ p. Ok (p, ts)) (λ a. between_after inside x false a)) (λ a. member_after inside.limits.literals x false a)) (λ a. negated_after inside x a)
      (local_choose (is_word w.In) (λ ts. choose (after (is_word w.Between) ts) (column_of x ts >>= λ p. Ok (p, ts)) (λ a. between_after inside x false a)) (λ a. member_after inside.limits.literals x false a)
      (local_choose (is_word w.Between) (λ ts. column_of x ts >>= λ p. Ok (p, ts)) (λ a. between_after inside x false a) (column_l x) (between_l x false)) (member_l inside.limits.literals x false)) (negated_l x))
      (λ o. local_made (operand_at inside) (λ y. compare x o y) operand_l)

  tested_atom_l : Local true (tested_atom_at inside)
  unfolding tested_atom_at
  tested_atom_l = local_bind (operand_at inside) (λ x us. choose (after (is_word w.Is) us) (atom_after inside x us >>= λ p. test_after p.0 p.1) (λ a. is_after x a)) operand_l
      (λ x. local_choose (is_word w.Is) (λ us. atom_after inside x us >>= λ p. test_after p.0 p.1) (λ a. is_after x a) (local_bind (atom_after inside x) test_after (atom_l x) test_after_l) (is_l x))

  -- ---- predicates

  test_l : Local true (test_at inside)
  unfolding test_at
  test_l = local_choose (is_sign s.Open) (tested_atom_at inside) (λ a. inside.read a >>= λ p. found_or_unexpected (after (is_sign s.Close)) p.1 >>= λ b. test_after p.0 b) tested_atom_l
      (local_bind inside.read (λ p us. found_or_unexpected (after (is_sign s.Close)) us >>= λ b. test_after p b) inside_l (λ p. local_found_or_stuck (is_sign s.Close) (λ b. test_after p b) (test_after_l p)))

  negation_l : Local true (negation_at inside)
  unfolding negation_at
  negation_l = local_choose (is_word w.Not) (test_at inside) (λ a. test_at inside a >>= λ p. Ok (not_of p.0, p.1)) test_l (local_made (test_at inside) (λ p. not_of p) test_l)

  conjunction_l : Local true (conjunction_at inside)
  unfolding conjunction_at
  conjunction_l = local_joined (is_word w.And) (negation_at inside) conjunction_of negation_l

  disjunction_l : Local true (disjunction_at inside)
  unfolding disjunction_at
  disjunction_l = local_joined (is_word w.Or) (conjunction_at inside) disjunction_of conjunction_l

pub predicate_l : (limits : Limits) (n : ℕ) → Local false (predicate_at limits n)
unfolding predicate_at
predicate_l limits zero = local_over
predicate_l limits (suc n) = local_loose (disjunction_at (inside_of limits n)) (disjunction_l (inside_of limits n) (predicate_l limits n))

pub expression_told : TellsByFront begins_expression
unfolding begins_expression
expression_told (tokens.Name n) us vs = refl
expression_told (tokens.Word w.Grouping) us vs = refl
expression_told (tokens.Word w.Count) us vs = refl
expression_told (tokens.Word w.Sum) us vs = refl
expression_told (tokens.Word w.Min) us vs = refl
expression_told (tokens.Word w.Max) us vs = refl
expression_told (tokens.Word w.Avg) us vs = refl
expression_told t us vs = refl
