-- The queries that some text says, apart from any text.
use Rattle.std.proofs.Common.{length, ◌<◌, ◌≤◌, ◌^◌, ℕ, zero, suc, Bool, true, false, List, [], ◌∷◌, Option, Some, None, ◌⊎◌, inl, inr}
use Rattle.std.specs.Prelude.{ℤ}
use Rattle.std.proofs.Math.IntN.{pos, negsuc}
use Rattle.semantics.specs.declared.literal.Literal.{Literal}
use Rattle.semantics.specs.declared.literal.Literal.TheVariants as literals
use Rattle.semantics.specs.declared.aggregate.Aggregate.{Aggregate}
use Rattle.semantics.specs.declared.aggregate.Aggregate.TheVariants as aggregates
use Rattle.semantics.specs.Syntax.{Expression, SetFunction, Operand, Predicate, Predicates, GroupingElement, GroupingElements, SelectItem, SortKey, Query, name, grouping, function, over_all, over_filtered, or_of, and_of, not_of, truth_test, compare, between, member, null_test, column, no_parts, part, set, rollup, cube, sets, no_groups, group}
use Rattle.semantics.specs.Canonical.{precedence}

-- ---- lists

-- Each of a list has the property.
abbrev pub Each : {A : Type 0} → (A → Type 0) → List A → Type 0
Each P [] = Unit {0}
Each P (x ∷ xs) = P x × Each P xs

-- Each of a list has the property, and the list has one element at least.
abbrev pub Inhabited : {A : Type 0} → (A → Type 0) → List A → Type 0
Inhabited P [] = ⊥
Inhabited P (x ∷ xs) = P x × Each P xs

-- Each of a list has the property, and the list has one element at least and this many at most.
abbrev pub Filled : {A : Type 0} → ℕ → (A → Type 0) → List A → Type 0
Filled most P [] = ⊥
Filled most P (x ∷ xs) = P x × Each P xs × (length xs < most)

-- What stands in an Option has the property.
abbrev pub Within : {A : Type 0} → (A → Type 0) → Option A → Type 0
Within P None = Unit {0}
Within P (Some x) = P x

-- ---- expressions

-- A name is not empty.
abbrev pub GoodName : List ℕ → Type 0
GoodName n = 0 < length n

abbrev pub GoodAggregate : Aggregate → Type 0
GoodAggregate aggregates.CountRows = Unit {0}
GoodAggregate (aggregates.Count n) = GoodName n
GoodAggregate (aggregates.CountDistinct n) = GoodName n
GoodAggregate (aggregates.Sum n) = GoodName n
GoodAggregate (aggregates.Min n) = GoodName n
GoodAggregate (aggregates.Max n) = GoodName n
GoodAggregate (aggregates.Avg n) = GoodName n

-- ---- predicates

-- A whole number fits 64 bits.
abbrev pub InRange : ℤ → Type 0
InRange (pos n) = n < 2 ^ 63
InRange (negsuc n) = n < 2 ^ 63

abbrev pub GoodLiteral : Literal → Type 0
GoodLiteral (literals.Integer i) = InRange i
GoodLiteral (literals.Text t) = Unit {0}
GoodLiteral (literals.Truth b) = Unit {0}

-- OR and AND have two parts or more.
abbrev pub IsMany : Predicates → Type 0
IsMany no_parts = ⊥
IsMany (part p no_parts) = ⊥
IsMany (part p (part q ps)) = Unit {0}

-- One level of brackets less.
abbrev pub Deeper : (ℕ → Type 0) → ℕ → Type 0
Deeper G zero = ⊥
Deeper G (suc n) = G n

-- What is to hold together at least so tightly does, or it stands in brackets.
abbrev pub Fits : ℕ → ℕ → (ℕ → Type 0) → ℕ → Type 0
Fits least has G n = ((has < least) × Deeper G n) ⊎ ((least ≤ has) × G n)

-- The canonical text has at most n levels of brackets, of which those of a FILTER are one.
abbrev mutual
  pub GoodFunction : SetFunction → ℕ → Type 0
  GoodFunction (over_all f) n = GoodAggregate f
  GoodFunction (over_filtered f p) n = GoodAggregate f × Deeper (Good p) n

  pub GoodExpression : Expression → ℕ → Type 0
  GoodExpression (name n) m = GoodName n
  GoodExpression (grouping ns) m = Filled 8 GoodName ns
  GoodExpression (function f) m = GoodFunction f m

  pub GoodOperand : Operand → ℕ → Type 0
  GoodOperand (Operand.expression e) n = GoodExpression e n
  GoodOperand (Operand.literal a) n = GoodLiteral a

  pub Good : Predicate → ℕ → Type 0
  Good (or_of ps) n = IsMany ps × PartsFit 1 ps n
  Good (and_of ps) n = IsMany ps × PartsFit 2 ps n
  Good (not_of p) n = Fits 3 (precedence p) (Good p) n
  Good (truth_test p b t) n = Fits 4 (precedence p) (Good p) n
  Good (compare x o y) n = GoodOperand x n × GoodOperand y n
  Good (between x b y z) n = GoodOperand x n × GoodOperand y n × GoodOperand z n
  Good (member x b ls) n = GoodOperand x n × Filled 64 GoodLiteral ls
  Good (null_test x b) n = GoodOperand x n
  Good (column m) n = GoodName m

  pub PartsFit : ℕ → Predicates → ℕ → Type 0
  PartsFit least no_parts n = Unit {0}
  PartsFit least (part p ps) n = Fits least (precedence p) (Good p) n × PartsFit least ps n

-- ---- the query

abbrev pub GoodItem : SelectItem → Type 0
GoodItem i = GoodExpression i.expression 64 × Within GoodName i.alias

-- A unit has one column at least, a set may have none.
abbrev pub GoodUnit : List (List ℕ) → Type 0
GoodUnit = Inhabited GoodName

abbrev pub GoodSet : List (List ℕ) → Type 0
GoodSet = Each GoodName

-- GROUPING SETS have one element at least.
abbrev pub IsFilled : GroupingElements → Type 0
IsFilled no_groups = ⊥
IsFilled (group x gs) = Unit {0}

-- The group has at most n levels of GROUPING SETS.
abbrev mutual
  pub GoodGroup : GroupingElement → ℕ → Type 0
  GoodGroup (set ns) n = GoodSet ns
  GoodGroup (rollup us) n = Inhabited GoodUnit us
  GoodGroup (cube us) n = Inhabited GoodUnit us
  GoodGroup (sets gs) n = IsFilled gs × Deeper (GoodGroups gs) n

  pub GoodGroups : GroupingElements → ℕ → Type 0
  GoodGroups no_groups n = Unit {0}
  GoodGroups (group x gs) n = GoodGroup x n × GoodGroups gs n

-- An element of GROUP BY.
abbrev pub GoodElement : GroupingElement → Type 0
GoodElement x = GoodGroup x 16

-- DISTINCT is not written.
abbrev pub IsPlain : Bool → Type 0
IsPlain true = ⊥
IsPlain false = Unit {0}

-- DISTINCT is written in front of one element at least.
abbrev pub GoodGroupBy : Bool → List GroupingElement → Type 0
GoodGroupBy d [] = IsPlain d
GoodGroupBy d (x ∷ gs) = GoodElement x × Each GoodElement gs

abbrev pub GoodKey : SortKey → Type 0
GoodKey k = GoodExpression k.expression 64

abbrev pub GoodTree : Query → Type 0
GoodTree q = Filled 64 GoodItem q.items × Within (λ p. Good p 64) q.where_condition × GoodGroupBy q.distinct_sets q.groups × Within (λ p. Good p 64) q.having_condition × Each GoodKey q.keys

-- ---- more levels of brackets do no harm

deeper_more : (G : ℕ → Type 0) → ((n : ℕ) → G n → G (suc n)) → (n : ℕ) → Deeper G n → G n
deeper_more G up zero d = absurd d
deeper_more G up (suc n) d = up n d

fits_more : (least has : ℕ) (G : ℕ → Type 0) → ((n : ℕ) → G n → G (suc n)) → (n : ℕ) → Fits least has G n → Fits least has G (suc n)
fits_more least has G up n (inl h) = inl (h.0, deeper_more G up n h.1)
fits_more least has G up n (inr h) = inr (h.0, up n h.1)

deeper_up : (G : ℕ → Type 0) → ((n : ℕ) → G n → G (suc n)) → (n : ℕ) → Deeper G n → Deeper G (suc n)
deeper_up G up n d = deeper_more G up n d

mutual
  function_more : (f : SetFunction) (n : ℕ) → GoodFunction f n → GoodFunction f (suc n)
  function_more (over_all f) n g = g
  function_more (over_filtered f p) n g = (g.0, deeper_up (Good p) (good_more p) n g.1)

  expression_more : (e : Expression) (n : ℕ) → GoodExpression e n → GoodExpression e (suc n)
  expression_more (name m) n g = g
  expression_more (grouping ms) n g = g
  expression_more (function f) n g = function_more f n g

  operand_more : (x : Operand) (n : ℕ) → GoodOperand x n → GoodOperand x (suc n)
  operand_more (Operand.expression e) n g = expression_more e n g
  operand_more (Operand.literal a) n g = g

  pub good_more : (p : Predicate) (n : ℕ) → Good p n → Good p (suc n)
  good_more (or_of ps) n g = (g.0, parts_more 1 ps n g.1)
  good_more (and_of ps) n g = (g.0, parts_more 2 ps n g.1)
  good_more (not_of p) n g = fits_more 3 (precedence p) (Good p) (good_more p) n g
  good_more (truth_test p b t) n g = fits_more 4 (precedence p) (Good p) (good_more p) n g
  good_more (compare x o y) n g = (operand_more x n g.0, operand_more y n g.1)
  good_more (between x b y z) n g = (operand_more x n g.0, operand_more y n g.1, operand_more z n g.2)
  good_more (member x b ls) n g = (operand_more x n g.0, g.1)
  good_more (null_test x b) n g = operand_more x n g
  good_more (column m) n g = g

  pub parts_more : (least : ℕ) (ps : Predicates) (n : ℕ) → PartsFit least ps n → PartsFit least ps (suc n)
  parts_more least no_parts n g = tt
  parts_more least (part p ps) n g = (fits_more least (precedence p) (Good p) (good_more p) n g.0, parts_more least ps n g.1)

pub deeper_good : (p : Predicate) (n : ℕ) → Deeper (Good p) n → Good p n
deeper_good p n d = deeper_more (Good p) (good_more p) n d
