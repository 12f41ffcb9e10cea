-- A query is good in one way at most.
use Rattle.std.proofs.Common.{arith, length, ◌<◌, ◌≤◌, ◌^◌, ℕ, zero, suc, Bool, true, false, [], ◌∷◌, Some, None, ◌⊎◌, inl, inr, ap}
use Rattle.std.proofs.Math.IntN.{pos, negsuc}
use Rattle.std.proofs.Math.Bridge.{le_prop}
use Rattle.semantics.specs.declared.literal.Literal.TheVariants as literals
use Rattle.semantics.specs.declared.aggregate.Aggregate.TheVariants as aggregates
use Rattle.semantics.specs.Syntax.{Expression, SetFunction, Operand, Predicate, Predicates, GroupingElement, GroupingElements, name, grouping, function, over_all, over_filtered, or_of, and_of, not_of, truth_test, compare, between, member, null_test, column, no_parts, part, set, rollup, cube, sets, no_groups, group}
use Rattle.semantics.specs.Canonical.{precedence}
use Rattle.query.proofs.Good.{Each, Inhabited, Filled, Within, GoodName, GoodAggregate, GoodFunction, GoodExpression, InRange, GoodLiteral, GoodOperand, IsMany, Deeper, Fits, Good, PartsFit, GoodItem, GoodUnit, IsFilled, GoodGroup, GoodGroups, GoodElement, IsPlain, GoodGroupBy, GoodKey, GoodTree}

le_one : (a b : ℕ) → IsProp (a ≤ b)
le_one a b = le_prop

lt_one : (a b : ℕ) → IsProp (a < b)
lt_one a b = le_prop

unit_one : IsProp (Unit {0})
unit_one = hlevel

none_one : IsProp ⊥
none_one = hlevel

both_one : {A B : Type 0} → IsProp A → IsProp B → IsProp (A × B)
both_one a b = hlevel (a, b)

three_one : {A B C : Type 0} → IsProp A → IsProp B → IsProp C → IsProp (A × B × C)
three_one a b c = hlevel (a, b, c)

either_one : {A B : Type 0} → IsProp A → IsProp B → (A → B → ⊥) → IsProp (A ⊎ B)
either_one {A} {B} a b apart (inl x) (inl y) = let put : A → A ⊎ B = λ z. inl z in ap put (a x y)
either_one {A} {B} a b apart (inr x) (inr y) = let put : B → A ⊎ B = λ z. inr z in ap put (b x y)
either_one a b apart (inl x) (inr y) = absurd (apart x y)
either_one a b apart (inr x) (inl y) = absurd (apart y x)

-- ---- lists and options

abbrev AllOne : {A : Type 0} → (A → Type 0) → Type 0
AllOne {A} P = (x : A) → IsProp (P x)

each_one : {A : Type 0} (P : A → Type 0) → AllOne P → AllOne (Each P)
each_one P one [] = unit_one
each_one P one (x ∷ xs) = both_one (one x) (each_one P one xs)

inhabited_one : {A : Type 0} (P : A → Type 0) → AllOne P → AllOne (Inhabited P)
inhabited_one P one [] = none_one
inhabited_one P one (x ∷ xs) = both_one (one x) (each_one P one xs)

filled_one : {A : Type 0} (most : ℕ) (P : A → Type 0) → AllOne P → AllOne (Filled most P)
filled_one most P one [] = none_one
filled_one most P one (x ∷ xs) = three_one (one x) (each_one P one xs) (lt_one (length xs) most)

within_one : {A : Type 0} (P : A → Type 0) → AllOne P → AllOne (Within P)
within_one P one None = unit_one
within_one P one (Some x) = one x

-- ---- expressions

name_one : AllOne GoodName
name_one n = lt_one 0 (length n)

aggregate_one : AllOne GoodAggregate
aggregate_one aggregates.CountRows = unit_one
aggregate_one (aggregates.Count n) = name_one n
aggregate_one (aggregates.CountDistinct n) = name_one n
aggregate_one (aggregates.Sum n) = name_one n
aggregate_one (aggregates.Min n) = name_one n
aggregate_one (aggregates.Max n) = name_one n
aggregate_one (aggregates.Avg n) = name_one n

-- ---- predicates

range_one : AllOne InRange
range_one (pos n) = lt_one n (2 ^ 63)
range_one (negsuc n) = lt_one n (2 ^ 63)

literal_one : AllOne GoodLiteral
literal_one (literals.Integer i) = range_one i
literal_one (literals.Text t) = unit_one
literal_one (literals.Truth b) = unit_one

many_one : AllOne IsMany
many_one no_parts = none_one
many_one (part p no_parts) = none_one
many_one (part p (part q ps)) = unit_one

deeper_one : (G : ℕ → Type 0) → AllOne G → AllOne (Deeper G)
deeper_one G one zero = none_one
deeper_one G one (suc n) = one n

fits_one : (least has : ℕ) (G : ℕ → Type 0) → AllOne G → AllOne (Fits least has G)
fits_one least has G one n =
    let inside = both_one (lt_one has least) (deeper_one G one n) in
    let alone = both_one (le_one least has) (one n) in
    either_one inside alone (λ x y. let a = x.0 in let b = y.0 in omega arith)

mutual
  function_one : (f : SetFunction) (n : ℕ) → IsProp (GoodFunction f n)
  function_one (over_all f) n = aggregate_one f
  function_one (over_filtered f p) n = both_one (aggregate_one f) (deeper_one (Good p) (good_one p) n)

  expression_one : (e : Expression) (n : ℕ) → IsProp (GoodExpression e n)
  expression_one (name m) n = name_one m
  expression_one (grouping ms) n = filled_one 8 GoodName name_one ms
  expression_one (function f) n = function_one f n

  operand_one : (x : Operand) (n : ℕ) → IsProp (GoodOperand x n)
  operand_one (Operand.expression e) n = expression_one e n
  operand_one (Operand.literal a) n = literal_one a

  good_one : (p : Predicate) (n : ℕ) → IsProp (Good p n)
  good_one (or_of ps) n = both_one (many_one ps) (parts_one 1 ps n)
  good_one (and_of ps) n = both_one (many_one ps) (parts_one 2 ps n)
  good_one (not_of p) n = fits_one 3 (precedence p) (Good p) (good_one p) n
  good_one (truth_test p b t) n = fits_one 4 (precedence p) (Good p) (good_one p) n
  good_one (compare x o y) n = both_one (operand_one x n) (operand_one y n)
  good_one (between x b y z) n = three_one (operand_one x n) (operand_one y n) (operand_one z n)
  good_one (member x b ls) n = both_one (operand_one x n) (filled_one 64 GoodLiteral literal_one ls)
  good_one (null_test x b) n = operand_one x n
  good_one (column m) n = name_one m

  parts_one : (least : ℕ) (ps : Predicates) (n : ℕ) → IsProp (PartsFit least ps n)
  parts_one least no_parts n = unit_one
  parts_one least (part p ps) n = both_one (fits_one least (precedence p) (Good p) (good_one p) n) (parts_one least ps n)

-- ---- the query

item_one : AllOne GoodItem
item_one i = both_one (expression_one i.expression 64) (within_one GoodName name_one i.alias)

unit_list_one : AllOne (Inhabited GoodUnit)
unit_list_one = inhabited_one GoodUnit (inhabited_one GoodName name_one)

is_filled_one : AllOne IsFilled
is_filled_one no_groups = none_one
is_filled_one (group x gs) = unit_one

mutual
  group_one : (x : GroupingElement) (n : ℕ) → IsProp (GoodGroup x n)
  group_one (set ns) n = each_one GoodName name_one ns
  group_one (rollup us) n = unit_list_one us
  group_one (cube us) n = unit_list_one us
  group_one (sets gs) n = both_one (is_filled_one gs) (deeper_one (GoodGroups gs) (groups_one gs) n)

  groups_one : (gs : GroupingElements) (n : ℕ) → IsProp (GoodGroups gs n)
  groups_one no_groups n = unit_one
  groups_one (group x gs) n = both_one (group_one x n) (groups_one gs n)

plain_one : AllOne IsPlain
plain_one true = none_one
plain_one false = unit_one

group_by_one : (d : Bool) → AllOne (GoodGroupBy d)
group_by_one d [] = plain_one d
group_by_one d (x ∷ gs) = both_one (group_one x 16) (each_one GoodElement (λ y. group_one y 16) gs)

-- A query is good in one way at most.
pub tree_one : AllOne GoodTree
tree_one q =
    let items = filled_one 64 GoodItem item_one q.items in
    let where_condition = within_one (λ p. Good p 64) (λ p. good_one p 64) q.where_condition in
    let groups = group_by_one q.distinct_sets q.groups in
    let having_condition = within_one (λ p. Good p 64) (λ p. good_one p 64) q.having_condition in
    let keys = each_one GoodKey (λ k. expression_one k.expression 64) q.keys in
    hlevel (items, where_condition, groups, having_condition, keys)
