-- Codes of queries and plans, by which these are values of contracts. No contract's meaning rests
-- on which code a form has, only on each form having one of its own.
use base.Stored.{Gv, gnil, gnum, gcons}
use Rattle.std.proofs.Common.{◌≡◌, ℕ, zero, suc, Bool, false, Option, List, ◌∷◌, refl, ap, sym, subst, []}
use Rattle.std.specs.Coded.{Coded, code_by, coded×, coded_ℕ, coded_bool, coded_list, coded_option}
use Rattle.semantics.specs.declared.comparison.Op.{Op}
use Rattle.semantics.specs.declared.comparison.Op.TheVariants.{Eq}
use Rattle.semantics.specs.contracts.comparison.Op as op
use Rattle.semantics.specs.declared.truth.Truth.{Truth}
use Rattle.semantics.specs.declared.truth.Truth.TheVariants.{Unknown}
use Rattle.semantics.specs.contracts.truth.Truth as truth
use Rattle.semantics.specs.declared.literal.Literal.{Literal}
use Rattle.semantics.specs.contracts.literal.Literal as literal_contract
use Rattle.semantics.specs.declared.aggregate.Aggregate.{Aggregate}
use Rattle.semantics.specs.declared.aggregate.Aggregate.TheVariants.{CountRows}
use Rattle.semantics.specs.contracts.aggregate.Aggregate as aggregate
use Rattle.semantics.specs.Columns.{Field}
use Rattle.values.specs.contracts.schema.Schema as schema
use Rattle.query_plan.specs.Planned.{PlannedQuery}
use Rattle.semantics.specs.Syntax.{GroupingElement, GroupingElements, Expression, SetFunction, SelectItem, SortKey, Operand, Predicate, Predicates, Query, name, grouping, function, over_all, over_filtered, literal, or_of, and_of, not_of, truth_test, compare, between, member, null_test, column, no_parts, part, set, rollup, cube, sets, no_groups, group}

-- What a node says by itself: which of its kind it is, and the names, the literals, the mark, the
-- function, the operator and the truth value that it has.
abbrev Words : Type 0
Words = ℕ × (List (List (List ℕ)) × (List Literal × (Bool × (Aggregate × (Op × Truth)))))

coded_words : Coded Words
coded_words = coded× coded_ℕ (coded× (coded_list (coded_list (coded_list coded_ℕ))) (coded× (coded_list literal_contract.the_row.coded) (coded× coded_bool (coded× aggregate.the_row.coded (coded× op.the_row.coded truth.the_row.coded)))))

-- The words of a node that has names and no more, and so on.
abbrev words_of_names : ℕ → List (List (List ℕ)) → Words
words_of_names k names = (k, (names, ([], (false, (CountRows, (Eq, Unknown))))))

abbrev words_of : ℕ → List Literal → Bool → Aggregate → Op → Truth → Words
words_of k ls b f o t = (k, ([], (ls, (b, (f, (o, t))))))

abbrev plain : ℕ → Words
plain k = words_of_names k []

abbrev words_of_mark : ℕ → Bool → Words
words_of_mark k b = words_of k [] b CountRows Eq Unknown

-- A form as a tree of three branches at each node.
data Spelled : Type 0 where
  leaf : Spelled
  node : Words → Spelled → Spelled → Spelled → Spelled

spelled_code : Spelled → Gv
spelled_code leaf = gnil
spelled_code (node w a b c) = gcons (coded_words.code w) (gcons (spelled_code a) (gcons (spelled_code b) (spelled_code c)))

abbrev first : Gv → Gv
first gnil = gnil
first (gnum n) = gnil
first (gcons a b) = a

abbrev rest : Gv → Gv
rest gnil = gnil
rest (gnum n) = gnil
rest (gcons a b) = b

abbrev IsCons : Gv → Type 0
IsCons gnil = ⊥
IsCons (gnum n) = ⊥
IsCons (gcons a b) = Unit {0}

spelled_one : (s t : Spelled) → spelled_code s ≡ spelled_code t → s ≡ t
unfolding spelled_code
spelled_one leaf leaf e = refl
spelled_one leaf (node w a b c) e = absurd (subst IsCons (sym e) tt)
spelled_one (node w a b c) leaf e = absurd (subst IsCons e tt)
spelled_one (node w a b c) (node v d f g) e = λ i.
    node (coded_words.inj w v (ap first e) i) (spelled_one a d (ap (λ x. first (rest x)) e) i) (spelled_one b f (ap (λ x. first (rest (rest x))) e) i) (spelled_one c g (ap (λ x. rest (rest (rest x))) e) i)

coded_spelled : Coded Spelled
coded_spelled = record { code = spelled_code; inj = spelled_one }

mutual
  spell_expression : Expression → Spelled
  spell_expression (name n) = node (words_of_names 0 ((n ∷ []) ∷ [])) leaf leaf leaf
  spell_expression (grouping ns) = node (words_of_names 1 (ns ∷ [])) leaf leaf leaf
  spell_expression (function f) = node (plain 2) (spell_function f) leaf leaf

  spell_function : SetFunction → Spelled
  spell_function (over_all f) = node (words_of 0 [] false f Eq Unknown) leaf leaf leaf
  spell_function (over_filtered f p) = node (words_of 1 [] false f Eq Unknown) (spell_predicate p) leaf leaf

  spell_operand : Operand → Spelled
  spell_operand (Operand.expression e) = node (plain 0) (spell_expression e) leaf leaf
  spell_operand (literal a) = node (words_of 1 (a ∷ []) false CountRows Eq Unknown) leaf leaf leaf

  spell_predicate : Predicate → Spelled
  spell_predicate (or_of ps) = node (plain 0) (spell_predicates ps) leaf leaf
  spell_predicate (and_of ps) = node (plain 1) (spell_predicates ps) leaf leaf
  spell_predicate (not_of p) = node (plain 2) (spell_predicate p) leaf leaf
  spell_predicate (truth_test p b t) = node (words_of 3 [] b CountRows Eq t) (spell_predicate p) leaf leaf
  spell_predicate (compare x o y) = node (words_of 4 [] false CountRows o Unknown) (spell_operand x) (spell_operand y) leaf
  spell_predicate (between x b y z) = node (words_of_mark 5 b) (spell_operand x) (spell_operand y) (spell_operand z)
  spell_predicate (member x b ls) = node (words_of 6 ls b CountRows Eq Unknown) (spell_operand x) leaf leaf
  spell_predicate (null_test x b) = node (words_of_mark 7 b) (spell_operand x) leaf leaf
  spell_predicate (column n) = node (words_of_names 8 ((n ∷ []) ∷ [])) leaf leaf leaf

  spell_predicates : Predicates → Spelled
  spell_predicates no_parts = leaf
  spell_predicates (part p ps) = node (plain 0) (spell_predicate p) (spell_predicates ps) leaf

mutual
  spell_element : GroupingElement → Spelled
  spell_element (set ns) = node (words_of_names 0 (ns ∷ [])) leaf leaf leaf
  spell_element (rollup us) = node (words_of_names 1 us) leaf leaf leaf
  spell_element (cube us) = node (words_of_names 2 us) leaf leaf leaf
  spell_element (sets gs) = node (plain 3) (spell_elements gs) leaf leaf

  spell_elements : GroupingElements → Spelled
  spell_elements no_groups = leaf
  spell_elements (group g gs) = node (plain 0) (spell_element g) (spell_elements gs) leaf

-- What a tree is read as, as a form of each kind.
record Readings : Type 0 where
  expression : Expression
  function : SetFunction
  operand : Operand
  predicate : Predicate
  predicates : Predicates
  element : GroupingElement
  elements : GroupingElements

abbrev nothing : Readings
nothing = record {
  expression = name [];
  function = over_all CountRows;
  operand = Operand.expression (name []);
  predicate = column [];
  predicates = no_parts;
  element = set [];
  elements = no_groups;
}

-- The first of a list.
abbrev names_of : List (List (List ℕ)) → List (List ℕ)
names_of [] = []
names_of (ns ∷ nss) = ns

abbrev name_of : List (List ℕ) → List ℕ
name_of [] = []
name_of (n ∷ ns) = n

abbrev literal_of : List Literal → Operand
literal_of [] = Operand.expression (name [])
literal_of (a ∷ ls) = literal a

abbrev expression_by : ℕ → Words → Readings → Expression
expression_by zero w a = name (name_of (names_of w.1.0))
expression_by (suc zero) w a = grouping (names_of w.1.0)
expression_by (suc (suc _)) w a = function a.function

abbrev function_by : ℕ → Words → Readings → SetFunction
function_by zero w a = over_all w.1.1.1.1.0
function_by (suc _) w a = over_filtered w.1.1.1.1.0 a.predicate

abbrev operand_by : ℕ → Words → Readings → Operand
operand_by zero w a = Operand.expression a.expression
operand_by (suc _) w a = literal_of w.1.1.0

abbrev predicate_by : ℕ → Words → Readings → Readings → Readings → Predicate
predicate_by zero w a b c = or_of a.predicates
predicate_by (suc zero) w a b c = and_of a.predicates
predicate_by (suc (suc zero)) w a b c = not_of a.predicate
predicate_by (suc (suc (suc zero))) w a b c = truth_test a.predicate w.1.1.1.0 w.1.1.1.1.1.1
predicate_by (suc (suc (suc (suc zero)))) w a b c = compare a.operand w.1.1.1.1.1.0 b.operand
predicate_by (suc (suc (suc (suc (suc zero))))) w a b c = between a.operand w.1.1.1.0 b.operand c.operand
predicate_by (suc (suc (suc (suc (suc (suc zero)))))) w a b c = member a.operand w.1.1.1.0 w.1.1.0
predicate_by (suc (suc (suc (suc (suc (suc (suc zero))))))) w a b c = null_test a.operand w.1.1.1.0
predicate_by (suc (suc (suc (suc (suc (suc (suc (suc _)))))))) w a b c = column (name_of (names_of w.1.0))

abbrev element_by : ℕ → Words → Readings → GroupingElement
element_by zero w a = set (names_of w.1.0)
element_by (suc zero) w a = rollup w.1.0
element_by (suc (suc zero)) w a = cube w.1.0
element_by (suc (suc (suc _))) w a = sets a.elements

read : Spelled → Readings
read leaf = nothing
read (node w a b c) = record {
  expression = expression_by w.0 w (read a);
  function = function_by w.0 w (read a);
  operand = operand_by w.0 w (read a);
  predicate = predicate_by w.0 w (read a) (read b) (read c);
  predicates = part (read a).predicate (read b).predicates;
  element = element_by w.0 w (read a);
  elements = group (read a).element (read b).elements;
}

mutual
  unfolding read spell_expression

  expression_read : (x : Expression) → (read (spell_expression x)).expression ≡ x
  expression_read (name n) = refl
  expression_read (grouping ns) = refl
  expression_read (function f) = ap function (function_read f)

  function_read : (x : SetFunction) → (read (spell_function x)).function ≡ x
  function_read (over_all f) = refl
  function_read (over_filtered f p) = ap (over_filtered f) (predicate_read p)

  operand_read : (x : Operand) → (read (spell_operand x)).operand ≡ x
  operand_read (Operand.expression e) = ap Operand.expression (expression_read e)
  operand_read (literal a) = refl

  predicate_read : (x : Predicate) → (read (spell_predicate x)).predicate ≡ x
  predicate_read (or_of ps) = ap or_of (predicates_read ps)
  predicate_read (and_of ps) = ap and_of (predicates_read ps)
  predicate_read (not_of p) = ap not_of (predicate_read p)
  predicate_read (truth_test p b t) = ap (λ q. truth_test q b t) (predicate_read p)
  predicate_read (compare x o y) = λ i. compare (operand_read x i) o (operand_read y i)
  predicate_read (between x b y z) = λ i. between (operand_read x i) b (operand_read y i) (operand_read z i)
  predicate_read (member x b ls) = ap (λ y. member y b ls) (operand_read x)
  predicate_read (null_test x b) = ap (λ y. null_test y b) (operand_read x)
  predicate_read (column n) = refl

  predicates_read : (x : Predicates) → (read (spell_predicates x)).predicates ≡ x
  predicates_read no_parts = refl
  predicates_read (part p ps) = λ i. part (predicate_read p i) (predicates_read ps i)

mutual
  unfolding read spell_element

  element_read : (x : GroupingElement) → (read (spell_element x)).element ≡ x
  element_read (set ns) = refl
  element_read (rollup us) = refl
  element_read (cube us) = refl
  element_read (sets gs) = ap sets (elements_read gs)

  elements_read : (x : GroupingElements) → (read (spell_elements x)).elements ≡ x
  elements_read no_groups = refl
  elements_read (group g gs) = λ i. group (element_read g i) (elements_read gs i)

coded_expression : Coded Expression
coded_expression = code_by Spelled coded_spelled spell_expression (λ s. (read s).expression) expression_read

coded_predicate : Coded Predicate
coded_predicate = code_by Spelled coded_spelled spell_predicate (λ s. (read s).predicate) predicate_read

coded_element : Coded GroupingElement
coded_element = code_by Spelled coded_spelled spell_element (λ s. (read s).element) element_read

coded_item : Coded SelectItem
coded_item = code_by (Expression × Option (List ℕ)) (coded× coded_expression (coded_option (coded_list coded_ℕ))) (λ x. (x.expression, x.alias)) (λ p. record { expression = p.0; alias = p.1 }) (λ _. refl)

coded_key : Coded SortKey
coded_key = code_by (Expression × (Bool × Bool)) (coded× coded_expression (coded× coded_bool coded_bool)) (λ x. (x.expression, (x.descending, x.nulls_first))) (λ p. record { expression = p.0; descending = p.1.0; nulls_first = p.1.1 }) (λ _. refl)

-- The code of a query.
pub coded_tree : Coded Query
coded_tree =
    code_by (List SelectItem × (Option Predicate × (Bool × (List GroupingElement × (Option Predicate × List SortKey)))))
    (coded× (coded_list coded_item) (coded× (coded_option coded_predicate) (coded× coded_bool (coded× (coded_list coded_element) (coded× (coded_option coded_predicate) (coded_list coded_key))))))
    (λ t. (t.items, (t.where_condition, (t.distinct_sets, (t.groups, (t.having_condition, t.keys))))))
    (λ p. record { items = p.0; where_condition = p.1.0; distinct_sets = p.1.1.0; groups = p.1.1.1.0; having_condition = p.1.1.1.1.0; keys = p.1.1.1.1.1 })
    (λ _. refl)

-- The code of a plan.
pub coded_planned : Coded PlannedQuery
coded_planned = code_by (List Field × Query) (coded× schema.the_row.coded coded_tree) (λ p. (p.fields, p.query)) (λ p. record { fields = p.0; query = p.1 }) (λ _. refl)
