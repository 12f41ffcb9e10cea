-- What is the same is equal, and `==` of two predicates says whether their forms are.
use Rattle.std.proofs.Common.{◌≡◌, ◌∙◌, ℕ, zero, suc, Bool, true, false, ◌&&◌, ◌+◌, ◌<◌, List, [], ◌∷◌, map, Option, Some, None, Box, Decides, refl, ap, sym, arith, rules}
use denote.Hole.Compared.{Rel, settled, within}
use lib.Pointwise.{pointwise}
use Rattle.std.specs.Cmp.{booleans_Decides}
use Rattle.std.specs.Global.{Global}
use Rattle.std.specs.Option.{option_eq}
use Rattle.std.proofs.lemmas.Bool.Decides.{same_from_decides}
use Rattle.std.proofs.lemmas.Slice.Eq.{bytes_eq-Decides, slice_eq-Decides}
use Rattle.query_ast.specs.contracts.expression.PredicatePartialEq.TheImpl.{the_step, eq-value}
use Rattle.query_ast.specs.contracts.expression.PredicatePartialEq.TheImpl.Laws.{local}
use Rattle.semantics.specs.contracts.comparison.OpPartialEq.TheImpl as op
use Rattle.semantics.specs.contracts.truth.TruthPartialEq.TheImpl as truth
use Rattle.semantics.specs.contracts.literal.LiteralPartialEq.TheImpl as constant
use Rattle.semantics.specs.contracts.aggregate.AggregatePartialEq.TheImpl as aggregate
use Rattle.semantics.specs.contracts.function.ColumnFunctionPartialEq.TheImpl as column_function
use Rattle.query_ast.specs.declared.expression.Expression.TheBlock.{the_members, the_family, the_depth, member-Predicate, member-Expression, member-Operand, member-SetFunction}
use Rattle.query_ast.specs.declared.expression.Expression.TheBlock as block
use Rattle.query_ast.specs.declared.expression.Expression.TheViews.{out-Predicate, out-Operand, out-Expression, out-SetFunction}
use Rattle.query_ast.specs.declared.expression.Expression.TheFolds.{fold_out-Predicate, fold_out-Operand, fold_out-Expression, fold_out-SetFunction, map-Predicate, map-Operand, map-Expression, map-SetFunction}
use Rattle.query_ast.specs.declared.expression.Expression.TheOpen.{Predicate-F, Operand-F, Expression-F, SetFunction-F}
use Rattle.query_ast.specs.declared.expression.Expression.TheOpen as layer
use Rattle.query_ast.specs.declared.expression.Expression.{Expression}
use Rattle.query_ast.specs.declared.expression.Predicate.{Predicate}
use Rattle.query_ast.specs.declared.expression.Operand.{Operand}
use Rattle.query_ast.specs.declared.expression.SetFunction.{SetFunction}
use Rattle.semantics.specs.declared.comparison.Op.{Op}
use Rattle.semantics.specs.declared.truth.Truth.{Truth}
use Rattle.semantics.specs.declared.literal.Literal.{Literal}
use Rattle.semantics.specs.declared.aggregate.Aggregate.{Aggregate}
use Rattle.semantics.specs.declared.function.ColumnFunction.{ColumnFunction}
use Rattle.semantics.specs.Names.{PlannedFunction}
use Rattle.semantics.specs.Syntax as syntax
use Rattle.semantics.specs.Syntax.{name, grouping, function, over_all, over_filtered, expression, literal, or_of, and_of, not_of, truth_test, compare, between, member, null_test, column, no_parts, part, predicate_forms}
use Rattle.query_ast.specs.Syntax.{expression_form, function_form, operand_form, predicate_form, expression_step, function_step, operand_step, predicate_step}
use Rattle.semantics.specs.Inside.Same.{same_expression, same_filter, same_operand, same_parts, same_planned, same_predicate, same_set_function}

-- ---- decisions

-- What is decided of one proposition is decided of another that holds where it does.
via : {P Q : Type 0} {b : Bool} → (P → Q) → (Q → P) → Decides b P → Decides b Q
via f g d = (λ h. f (d.0 h), λ q. d.1 (g q))

-- Two decisions, of both at once.
both : {P Q : Type 0} (b c : Bool) → Decides b P → Decides c Q → Decides (b && c) (P × Q)
both true c d e = (λ h. (d.0 refl, e.0 h), λ k. e.1 k.1)
both false c d e = (λ h. absurd cc, λ k. d.1 k.0)

never : Decides false ⊥
never = (λ h. absurd cc, λ h. absurd h)

always : Decides true (Unit {0})
always = (λ h. tt, λ h. refl)

-- ---- leaves

ops : (a b : Op) → Decides (op.eq-value.it a b) (a ≡ b)
ops a b = search rules

truths : (a b : Truth) → Decides (truth.eq-value.it a b) (a ≡ b)
truths a b = search rules

literals : (a b : Literal) → Decides (constant.eq-value.it a b) (a ≡ b)
literals a b = search rules

aggregates : (a b : Aggregate) → Decides (aggregate.eq-value.it a b) (a ≡ b)
aggregates a b = search rules

column_functions : (a b : ColumnFunction) → Decides (column_function.eq-value.it a b) (a ≡ b)
column_functions a b = search rules

-- ---- predicates and set functions

-- Two predicates are the same exactly where they are equal, and so for what stands in them.
mutual
  pub same_predicate-Decides : (p q : syntax.Predicate) → Decides (same_predicate p q) (p ≡ q)
  same_predicate-Decides (or_of ps) (or_of qs) = via (λ k. ap or_of k) (λ f. cc) (same_parts-Decides ps qs)
  same_predicate-Decides (and_of ps) (and_of qs) = via (λ k. ap and_of k) (λ f. cc) (same_parts-Decides ps qs)
  same_predicate-Decides (not_of p) (not_of q) = via (λ k. ap not_of k) (λ f. cc) (same_predicate-Decides p q)
  same_predicate-Decides (truth_test p n t) (truth_test q m u) =
      via (λ k. let f = k.0 in let g = k.1.0 in let h = k.1.1 in cc) (λ f. (cc, (cc, cc))) (both _ _ (same_predicate-Decides p q) (both _ _ (booleans_Decides n m) (truths t u)))
  same_predicate-Decides (compare x o y) (compare z r w) =
      via (λ k. let f = k.0 in let g = k.1.0 in let h = k.1.1 in cc) (λ f. (cc, (cc, cc))) (both _ _ (same_operand-Decides x z) (both _ _ (ops o r) (same_operand-Decides y w)))
  same_predicate-Decides (between x n y z) (between u m v w) =
      via (λ k. let f = k.0 in let g = k.1.0 in let h = k.1.1.0 in let j = k.1.1.1 in cc) (λ f. (cc, (cc, (cc, cc))))
      (both _ _ (same_operand-Decides x u) (both _ _ (booleans_Decides n m) (both _ _ (same_operand-Decides y v) (same_operand-Decides z w))))
  same_predicate-Decides (member x n ls) (member y m rs) =
      via (λ k. let f = k.0 in let g = k.1.0 in let h = k.1.1 in cc) (λ f. (cc, (cc, cc)))
      (both _ _ (same_operand-Decides x y) (both _ _ (booleans_Decides n m) (slice_eq-Decides literals ls rs _ refl)))
  same_predicate-Decides (null_test x n) (null_test y m) = via (λ k. let f = k.0 in let g = k.1 in cc) (λ f. (cc, cc)) (both _ _ (same_operand-Decides x y) (booleans_Decides n m))
  same_predicate-Decides (column n) (column m) = via (λ k. ap column k) (λ f. cc) (bytes_eq-Decides n m)
  same_predicate-Decides p q = (λ h. absurd cc, λ h. absurd cc)

  same_parts-Decides : (ps qs : syntax.Predicates) → Decides (same_parts ps qs) (ps ≡ qs)
  same_parts-Decides no_parts no_parts = (λ h. refl, λ h. refl)
  same_parts-Decides (part p ps) (part q qs) = via (λ k. let e = k.0 in let f = k.1 in cc) (λ e. (cc, cc)) (both _ _ (same_predicate-Decides p q) (same_parts-Decides ps qs))
  same_parts-Decides ps qs = (λ h. absurd cc, λ h. absurd cc)

  same_operand-Decides : (x y : syntax.Operand) → Decides (same_operand x y) (x ≡ y)
  same_operand-Decides (expression e) (expression d) = via (λ k. ap expression k) (λ f. cc) (same_expression-Decides e d)
  same_operand-Decides (literal a) (literal b) = via (λ k. ap literal k) (λ f. cc) (literals a b)
  same_operand-Decides x y = (λ h. absurd cc, λ h. absurd cc)

  same_expression-Decides : (e d : syntax.Expression) → Decides (same_expression e d) (e ≡ d)
  same_expression-Decides (name n) (name m) = via (λ k. ap name k) (λ f. cc) (bytes_eq-Decides n m)
  same_expression-Decides (grouping ns) (grouping ms) = via (λ k. ap grouping k) (λ f. cc) (slice_eq-Decides bytes_eq-Decides ns ms _ refl)
  same_expression-Decides (function f) (function g) = via (λ k. ap function k) (λ h. cc) (same_set_function-Decides f g)
  same_expression-Decides e d = (λ h. absurd cc, λ h. absurd cc)

  same_set_function-Decides : (f g : syntax.SetFunction) → Decides (same_set_function f g) (f ≡ g)
  same_set_function-Decides (over_all a) (over_all b) = via (λ k. ap over_all k) (λ h. cc) (aggregates a b)
  same_set_function-Decides (over_filtered a p) (over_filtered b q) = via (λ k. let e = k.0 in let f = k.1 in cc) (λ e. (cc, cc)) (both _ _ (aggregates a b) (same_predicate-Decides p q))
  same_set_function-Decides f g = (λ h. absurd cc, λ h. absurd cc)

pub predicates_are_same : (p q : syntax.Predicate) → same_predicate p q ≡ true → p ≡ q
predicates_are_same p q h = (same_predicate-Decides p q).0 h

pub predicate_itself : (p : syntax.Predicate) → same_predicate p p ≡ true
predicate_itself p = (same_predicate-Decides p p).1 refl

same_filter-Decides : (o r : Option syntax.Predicate) → Decides (same_filter o r) (o ≡ r)
same_filter-Decides None None = (λ h. refl, λ h. refl)
same_filter-Decides None (Some q) = (λ h. absurd cc, λ h. absurd cc)
same_filter-Decides (Some p) None = (λ h. absurd cc, λ h. absurd cc)
same_filter-Decides (Some p) (Some q) = via (λ k. ap Some k) (λ e. cc) (same_predicate-Decides p q)

-- Two set functions are the same exactly where they are equal.
pub same_planned-Decides : (f g : PlannedFunction) → Decides (same_planned f g) (f ≡ g)
same_planned-Decides f g =
    via (λ k i. record { function = k.0 i; filter = k.1 i }) (λ e. (ap (λ (h : PlannedFunction). h.function) e, ap (λ (h : PlannedFunction). h.filter) e))
    (both _ _ (column_functions f.function g.function) (same_filter-Decides f.filter g.filter))

pub planned_are_same : (f g : PlannedFunction) → same_planned f g ≡ true → f ≡ g
planned_are_same f g h = (same_planned-Decides f g).0 h

-- A test that says whether two set functions are equal, apart from their filters, is the one that
-- is defined.
pub same_functions : (f g : ColumnFunction) (b : Bool) → Decides b (f ≡ g) → b ≡ column_function.eq-value.it f g
same_functions f g b d = same_from_decides _ _ d (column_functions f g)

-- ---- trees

-- Whether two trees of each kind are the same: where predicates are that have nothing else to
-- differ in.
abbrev same_trees : Rel the_members the_family the_depth Bool
same_trees member-Predicate d e = same_predicate (predicate_form d) (predicate_form e)
same_trees member-Operand d e = same_predicate (null_test (operand_form d) true) (null_test (operand_form e) true)
same_trees member-Expression d e = same_predicate (null_test (expression (expression_form d)) true) (null_test (expression (expression_form e)) true)
same_trees member-SetFunction d e = same_predicate (null_test (expression (function (function_form d))) true) (null_test (expression (function (function_form e))) true)

predicates : (d e : Predicate) → Decides (same_trees member-Predicate d e) (predicate_form d ≡ predicate_form e)
predicates d e = same_predicate-Decides _ _

operands : (d e : Operand) → Decides (same_trees member-Operand d e) (operand_form d ≡ operand_form e)
operands d e = via (λ h. cc) (λ h. ap (λ x. null_test x true) h) (same_predicate-Decides _ _)

expressions : (d e : Expression) → Decides (same_trees member-Expression d e) (expression_form d ≡ expression_form e)
expressions d e = via (λ h. cc) (λ h. ap (λ x. null_test (expression x) true) h) (same_predicate-Decides _ _)

functions : (d e : SetFunction) → Decides (same_trees member-SetFunction d e) (function_form d ≡ function_form e)
functions d e = via (λ h. cc) (λ h. ap (λ x. null_test (expression (function x)) true) h) (same_predicate-Decides _ _)

parts : (xs ys : List Predicate) → Decides (pointwise (same_trees member-Predicate) xs ys) (predicate_forms (map predicate_form xs) ≡ predicate_forms (map predicate_form ys))
parts [] [] = (λ h. refl, λ h. refl)
parts [] (y ∷ ys) = (λ h. absurd cc, λ h. absurd cc)
parts (x ∷ xs) [] = (λ h. absurd cc, λ h. absurd cc)
parts (x ∷ xs) (y ∷ ys) = via (λ k. let e = k.0 in let f = k.1 in cc) (λ e. (cc, cc)) (both _ _ (predicates x y) (parts xs ys))

-- ---- what the derived `==` computes of two trees, where that of what they hold is known

abbrev operand_seen : Operand-F Expression Operand Predicate SetFunction → syntax.Operand
operand_seen x = operand_step (map-Operand _ _ _ _ _ _ _ _ expression_form operand_form predicate_form function_form x)

operand_is : (d : Operand) → operand_form d ≡ operand_seen (out-Operand d)
operand_is d = fold_out-Operand _ _ _ _ _ _ _ _ d

abbrev expression_seen : Expression-F Expression Operand Predicate SetFunction → syntax.Expression
expression_seen x = expression_step (map-Expression _ _ _ _ _ _ _ _ expression_form operand_form predicate_form function_form x)

expression_is : (d : Expression) → expression_form d ≡ expression_seen (out-Expression d)
expression_is d = fold_out-Expression _ _ _ _ _ _ _ _ d

abbrev function_seen : SetFunction-F Expression Operand Predicate SetFunction → syntax.SetFunction
function_seen x = function_step (map-SetFunction _ _ _ _ _ _ _ _ expression_form operand_form predicate_form function_form x)

function_is : (d : SetFunction) → function_form d ≡ function_seen (out-SetFunction d)
function_is d = fold_out-SetFunction _ _ _ _ _ _ _ _ d

abbrev Layer : Type 0
Layer = Predicate-F Expression Operand Predicate SetFunction

abbrev seen : Layer → syntax.Predicate
seen x = predicate_step (map-Predicate _ _ _ _ _ _ _ _ expression_form operand_form predicate_form function_form x)

seen_is : (d : Predicate) (x : Layer) → out-Predicate d ≡ x → predicate_form d ≡ seen x
seen_is d x p = fold_out-Predicate _ _ _ _ _ _ _ _ d ∙ ap seen p

predicate_layers : (x y : Layer) (d e : Predicate) → out-Predicate d ≡ x → out-Predicate e ≡ y → Decides (the_step same_trees member-Predicate d e) (seen x ≡ seen y)
predicate_layers (layer.Or v) (layer.Or w) d e p q = rw (p, q) (via (λ k. ap or_of k) (λ f. cc) (parts v.items w.items))
predicate_layers (layer.And v) (layer.And w) d e p q = rw (p, q) (via (λ k. ap and_of k) (λ f. cc) (parts v.items w.items))
predicate_layers (layer.Not v) (layer.Not w) d e p q = rw (p, q) (via (λ k. ap not_of k) (λ f. cc) (predicates v.value w.value))
predicate_layers (layer.Is v n t) (layer.Is w m u) d e p q =
    rw (p, q) (via (λ k. let f = k.0 in let g = k.1.0 in let h = k.1.1 in cc) (λ f. (cc, (cc, cc))) (both _ _ (predicates v.value w.value) (both _ _ (booleans_Decides n m) (truths t u))))
predicate_layers (layer.Compare x o y) (layer.Compare z r w) d e p q =
    rw (p, q) (via (λ k. let f = k.0 in let g = k.1.0 in let h = k.1.1 in cc) (λ f. (cc, (cc, cc))) (both _ _ (operands x z) (both _ _ (ops o r) (operands y w))))
predicate_layers (layer.Between x n y z) (layer.Between u m v w) d e p q =
    rw (p, q)
    (via (λ k. let f = k.0 in let g = k.1.0 in let h = k.1.1.0 in let j = k.1.1.1 in cc) (λ f. (cc, (cc, (cc, cc))))
    (both _ _ (operands x u) (both _ _ (booleans_Decides n m) (both _ _ (operands y v) (operands z w)))))
predicate_layers (layer.In x n ls) (layer.In y m rs) d e p q =
    rw (p, q)
    (via (λ k. let f = k.0 in let g = k.1.0 in let h = k.1.1 in cc) (λ f. (cc, (cc, cc)))
    (both _ _ (operands x y) (both _ _ (booleans_Decides n m) (slice_eq-Decides literals ls.items rs.items _ refl))))
predicate_layers (layer.IsNull x n) (layer.IsNull y m) d e p q =
    rw (p, q) (via (λ k. let f = k.0 in let g = k.1 in cc) (λ f. (cc, cc)) (both _ _ (operands x y) (booleans_Decides n m)))
predicate_layers (layer.Column n) (layer.Column m) d e p q = rw (p, q) (via (λ k. ap column k) (λ f. cc) (bytes_eq-Decides n m))
predicate_layers x y d e p q = rw (p, q) (λ h. absurd cc, λ h. absurd cc)

operand_trees : (d e : Operand) → Decides (the_step same_trees member-Operand d e) (operand_form d ≡ operand_form e)
unfolding out-Operand denote.Hole.Carrier.out
operand_trees (block.Expression x) (block.Expression y) = rw (operand_is (block.Expression x), operand_is (block.Expression y)) (via (λ k. ap expression k) (λ f. cc) (expressions x y))
operand_trees (block.Literal a) (block.Literal b) = rw (operand_is (block.Literal a), operand_is (block.Literal b)) (via (λ k. ap literal k) (λ f. cc) (literals a b))
operand_trees (block.Expression x) (block.Literal b) = rw (operand_is (block.Expression x), operand_is (block.Literal b)) (λ h. absurd cc, λ h. absurd cc)
operand_trees (block.Literal a) (block.Expression y) = rw (operand_is (block.Literal a), operand_is (block.Expression y)) (λ h. absurd cc, λ h. absurd cc)

abbrev ExpressionLayer : Type 0
ExpressionLayer = Expression-F Expression Operand Predicate SetFunction

expression_layers : (x y : ExpressionLayer) (d e : Expression) → out-Expression d ≡ x → out-Expression e ≡ y
    → Decides (the_step same_trees member-Expression d e) (expression_seen x ≡ expression_seen y)
expression_layers (layer.Name n) (layer.Name m) d e p q = rw (p, q) (via (λ k. ap name k) (λ f. cc) (bytes_eq-Decides n m))
expression_layers (layer.Grouping v) (layer.Grouping w) d e p q = rw (p, q) (via (λ k. ap grouping k) (λ f. cc) (slice_eq-Decides bytes_eq-Decides v.items w.items _ refl))
expression_layers (layer.Function b) (layer.Function c) d e p q = rw (p, q) (via (λ k. ap function k) (λ f. cc) (functions b.value c.value))
expression_layers x y d e p q = rw (p, q) (λ h. absurd cc, λ h. absurd cc)

filters : (a b : Aggregate) (o r : Option (Box Predicate Global)) (t : Bool) → Decides t (a ≡ b)
    → Decides (t && option_eq (λ x y. same_trees member-Predicate x.value y.value) o r) (function_seen (record { aggregate = a; filter = o }) ≡ function_seen (record { aggregate = b; filter = r }))
filters a b None None t d = via (λ k. ap over_all k.0) (λ f. (cc, tt)) (both t true d always)
filters a b (Some x) (Some y) t d = via (λ k. let f = k.0 in let g = k.1 in cc) (λ f. (cc, cc)) (both t _ d (predicates x.value y.value))
filters a b None (Some y) t d = via (λ k. absurd k.1) (λ f. absurd cc) (both t false d never)
filters a b (Some x) None t d = via (λ k. absurd k.1) (λ f. absurd cc) (both t false d never)

function_trees : (d e : SetFunction) → Decides (the_step same_trees member-SetFunction d e) (function_form d ≡ function_form e)
function_trees f g = rw (function_is f, function_is g) (filters _ _ (out-SetFunction f).filter (out-SetFunction g).filter _ (aggregates _ _))

steps : (j : the_members) (d e : the_family j) → the_step same_trees j d e ≡ same_trees j d e
steps member-Predicate d e = same_from_decides _ _ (predicate_layers _ _ d e refl refl) (rw (sym (seen_is d _ refl), sym (seen_is e _ refl)) (predicates d e))
steps member-Operand d e = same_from_decides _ _ (operand_trees d e) (operands d e)
steps member-Expression d e = same_from_decides _ _ (expression_layers _ _ d e refl refl) (rw (sym (expression_is d), sym (expression_is e)) (expressions d e))
steps member-SetFunction d e = same_from_decides _ _ (function_trees d e) (functions d e)

-- ---- what it computes of any two

step_by_step : (n : ℕ) (j : the_members) (d e : the_family j) → the_depth j d < n → the_depth j e < n → within the_members the_family the_depth Bool true the_step n j d e ≡ same_trees j d e
unfolding within
step_by_step zero j d e p q = absurd (omega arith)
step_by_step (suc n) j d e p q = local (within the_members the_family the_depth Bool true the_step n) same_trees n (λ i u v k l. step_by_step n i u v k l) j d e (omega arith) (omega arith) ∙ steps j d e

-- The derived `==` of two predicates says whether their forms are the same.
pub equals_is_same : (d e : Predicate) → eq-value.it d e ≡ same_predicate (predicate_form d) (predicate_form e)
equals_is_same d e =
    let n : ℕ = suc (the_depth member-Predicate d + the_depth member-Predicate e) in
    sym (settled the_members the_family the_depth Bool true the_step local n member-Predicate d e (omega arith) (omega arith)) ∙ step_by_step n member-Predicate d e (omega arith) (omega arith)
