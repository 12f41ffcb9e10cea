-- A query is typed exactly where it has no fault.
use Rattle.std.proofs.Common.{◌≡◌, ◌==◌, ℕ, zero, suc, ◌<◌, Bool, true, false, cond, ◌||◌, List, [], ◌∷◌, length, get_or, Option, Some, None, All, Contains, refl, ap, arith, sym, ◌∙◌}
use Rattle.std.specs.Prelude.{IsSomeAnd, is_some}
use Rattle.std.specs.List.{list_any}
use Rattle.std.specs.Option.{option_or, option_and_then}
use Rattle.std.proofs.lemmas.Bool.Decides.{nat_tests}
use Rattle.std.proofs.lemmas.List.Elements.{All-nil, All-cons, All-head, All-tail}
use Rattle.semantics.specs.declared.kind.Kind.{Kind}
use Rattle.semantics.specs.declared.kind.Kind.TheVariants as kind
use Rattle.semantics.specs.Columns.{Field}
use Rattle.semantics.specs.declared.aggregate.Aggregate.{Aggregate}
use Rattle.semantics.specs.Syntax.{Expression, SetFunction, Operand, Predicate, Predicates, name, grouping, function, over_all, over_filtered, expression, literal, or_of, and_of, not_of, truth_test, compare, between, member, null_test, column, no_parts, part}
use Rattle.semantics.specs.declared.query_fault.QueryFault.{QueryFault}
use Rattle.semantics.specs.declared.query_fault.QueryFault.TheVariants.{FunctionNotAllowed}
use Rattle.query_typecheck.specs.declared.scope.Clause.{Clause}
use Rattle.query_typecheck.specs.declared.scope.Clause.TheVariants as clause
use Rattle.semantics.specs.Names.{column_kind, kind_at, place_of}
use Rattle.query_typecheck.specs.Typing.{IsGrouped, IsTypedName, IsTypedAggregate, IsTypedFunction, IsTypedGrouping, IsTypedExpression, IsTypedOperand, IsOfOneKind, IsTypedPredicate, AreTypedParts, IsTypedClause, IsOfKinds, argument_names, may_stand, takes}
use Rattle.semantics.specs.Types.{literal_kind, operand_kind}
use Rattle.query_typecheck.specs.FirstFaults.{first_fault, fault_unless, column_fault, grouped_at_fault, grouped_fault, name_fault, kind_fault, argument_fault, aggregate_fault, function_fault, grouping_fault, expression_fault, operand_fault, agreement_fault, predicate_fault, parts_fault, clause_fault}
use Rattle.semantics.specs.Faults.{same_kind}
use Rattle.query_resolve.proofs.Rows.{or_true}

-- ---- faults in a row

-- Where neither of two tests has a fault, none has.
pub none_of_both : {A : Type 0} (a b : Option A) → option_or a b ≡ None → (a ≡ None) × (b ≡ None)
none_of_both None b h = (refl, h)
none_of_both (Some x) b h = absurd cc

-- Two tests without a fault have none together.
pub both_none : {A : Type 0} (a b : Option A) → a ≡ None → b ≡ None → option_or a b ≡ None
both_none a b p q = rw p q

-- A test without a fault holds.
pub holds : (t : Bool) (f : QueryFault) → fault_unless t f ≡ None → t ≡ true
holds true f h = refl
holds false f h = absurd cc

-- A test that holds has no fault.
pub passes : (t : Bool) (f : QueryFault) → t ≡ true → fault_unless t f ≡ None
passes t f h = rw h refl

-- Elements without a fault are each as they are to be.
pub all_from_none : {A : Type 0} (f : A → Option QueryFault) (P : A → Type 0) → ((x : A) → f x ≡ None → P x) → (xs : List A) → first_fault f xs ≡ None → All P xs
all_from_none f P step [] h = All-nil P
all_from_none f P step (x ∷ xs) h = let k = none_of_both (f x) (first_fault f xs) h in All-cons P x xs (step x k.0) (all_from_none f P step xs k.1)

-- Elements that are as they are to be have no fault.
pub none_from_all : {A : Type 0} (f : A → Option QueryFault) (P : A → Type 0) → ((x : A) → P x → f x ≡ None) → (xs : List A) → All P xs → first_fault f xs ≡ None
none_from_all f P step [] h = refl
none_from_all f P step (x ∷ xs) h = both_none (f x) (first_fault f xs) (step x (All-head P x xs h)) (none_from_all f P step xs (All-tail P x xs h))

-- ---- names

-- Places among others, by the test and as a fact.
contains_from_any : (xs : List ℕ) (x : ℕ) → list_any (λ y. y == x) xs ≡ true → Contains xs x
contains_from_any [] x h = absurd cc
contains_from_any (y ∷ ys) x h =
    elim (y == x) as (λ (t : Bool). t ≡ (y == x) → (t || list_any (λ z. z == x) ys) ≡ true → Contains (y ∷ ys) x) [
      | true ↦ λ e _. (0, omega arith, grind (arith, nat_tests))
      | false ↦ λ e k. let below = contains_from_any ys x k in (suc below.0, omega arith, below.2)
    ] refl h

-- A place that is among others passes the test.
any_at : (xs : List ℕ) (x k : ℕ) → k < length xs → get_or xs k x ≡ x → list_any (λ y. y == x) xs ≡ true
any_at [] x k below h = absurd (omega arith)
any_at (y ∷ ys) x zero below h = let e : (y == x) ≡ true = grind (arith, nat_tests) in rw e refl
any_at (y ∷ ys) x (suc k) below h = let e = any_at ys x k (omega arith) h in rw e (or_true (y == x))

-- A name without a fault is a grouping column.
grouped_from_none : (grouped n : List ℕ) (o : Option ℕ) → grouped_at_fault grouped n o ≡ None → IsSomeAnd o (λ place. Contains grouped place)
grouped_from_none grouped n None h = absurd cc
grouped_from_none grouped n (Some place) h = contains_from_any grouped place (holds (list_any (λ g. g == place) grouped) _ h)

-- A grouping column has no fault.
none_from_grouped : (grouped n : List ℕ) (o : Option ℕ) → IsSomeAnd o (λ place. Contains grouped place) → grouped_at_fault grouped n o ≡ None
none_from_grouped grouped n None h = absurd h
none_from_grouped grouped n (Some place) h = passes (list_any (λ g. g == place) grouped) _ (any_at grouped place h.0 h.1 h.2)

-- A name without a fault is typed.
pub name_from_none : (fields : List Field) (grouped : List ℕ) (c : Clause) (n : List ℕ) → name_fault fields grouped c n ≡ None → IsTypedName fields grouped c n
name_from_none fields grouped clause.Where n h = holds (is_some (place_of fields n)) _ h
name_from_none fields grouped clause.Select n h = grouped_from_none grouped n (place_of fields n) h
name_from_none fields grouped clause.Having n h = grouped_from_none grouped n (place_of fields n) h
name_from_none fields grouped clause.OrderBy n h = grouped_from_none grouped n (place_of fields n) h

-- A typed name has no fault.
none_from_name : (fields : List Field) (grouped : List ℕ) (c : Clause) (n : List ℕ) → IsTypedName fields grouped c n → name_fault fields grouped c n ≡ None
none_from_name fields grouped clause.Where n h = passes (is_some (place_of fields n)) _ h
none_from_name fields grouped clause.Select n h = none_from_grouped grouped n (place_of fields n) h
none_from_name fields grouped clause.Having n h = none_from_grouped grouped n (place_of fields n) h
none_from_name fields grouped clause.OrderBy n h = none_from_grouped grouped n (place_of fields n) h

-- ---- functions

-- Types that pass the test are equal.
pub same_from_test : (k l : Kind) → same_kind k l ≡ true → k ≡ l
same_from_test kind.Int kind.Int h = refl
same_from_test kind.Int kind.Text h = absurd cc
same_from_test kind.Int kind.Bool h = absurd cc
same_from_test kind.Text kind.Int h = absurd cc
same_from_test kind.Text kind.Text h = refl
same_from_test kind.Text kind.Bool h = absurd cc
same_from_test kind.Bool kind.Int h = absurd cc
same_from_test kind.Bool kind.Text h = absurd cc
same_from_test kind.Bool kind.Bool h = refl

-- A type is the same as itself.
pub same_itself : (k : Kind) → same_kind k k ≡ true
same_itself kind.Int = refl
same_itself kind.Text = refl
same_itself kind.Bool = refl

-- A name with a type is a column.
placed : (f : ℕ → Option Kind) (o : Option ℕ) (P : Kind → Type 0) → IsSomeAnd (option_and_then f o) P → is_some o ≡ true
placed f None P h = absurd h
placed f (Some p) P h = refl

-- A type that passes the test of some types is one of them.
among_from_test : (kinds : List Kind) (k : Kind) → list_any (same_kind k) kinds ≡ true → Contains kinds k
among_from_test [] k h = absurd cc
among_from_test (l ∷ ls) k h =
    elim (same_kind k l) as (λ (t : Bool). same_kind k l ≡ t → (t || list_any (same_kind k) ls) ≡ true → Contains (l ∷ ls) k) [
      | true ↦ λ e _. (0, omega arith, sym (same_from_test k l e))
      | false ↦ λ _ m. let below = among_from_test ls k m in (suc below.0, omega arith, below.2)
    ] refl h

-- One of some types passes their test.
pub test_from_among : (kinds : List Kind) (k : Kind) → Contains kinds k → list_any (same_kind k) kinds ≡ true
test_from_among [] k h = let below = h.1 in absurd (omega arith)
test_from_among (l ∷ ls) k (zero, below, e) = let same : same_kind k l ≡ true = ap (same_kind k) e ∙ same_itself k in rw same refl
test_from_among (l ∷ ls) k (suc i, below, e) = let later = test_from_among ls k (i, omega arith, e) in rw later (or_true (same_kind k l))

-- A type without a fault is one of these.
kind_from_none : (kinds : List Kind) (o : Option Kind) → kind_fault kinds o ≡ None → IsSomeAnd o (Contains kinds)
kind_from_none kinds None h = absurd cc
kind_from_none kinds (Some k) h = among_from_test kinds k (holds (list_any (same_kind k) kinds) _ h)

-- One of these types has no fault.
none_from_kind : (kinds : List Kind) (o : Option Kind) → IsSomeAnd o (Contains kinds) → kind_fault kinds o ≡ None
none_from_kind kinds None h = absurd h
none_from_kind kinds (Some k) h = passes (list_any (same_kind k) kinds) _ (test_from_among kinds k h)

-- One of one type is that type.
one_kind : (k : Kind) (o : Option Kind) → IsSomeAnd o (Contains (k ∷ [])) → o ≡ Some k
one_kind k None h = absurd h
one_kind k (Some l) (zero, below, e) = ap Some (sym e)
one_kind k (Some l) (suc i, below, e) = absurd (omega arith)

-- A set function without a fault takes its column.
pub aggregate_from_none : (fields : List Field) (a : Aggregate) → aggregate_fault fields a ≡ None → IsTypedAggregate fields a
aggregate_from_none fields a h =
    all_from_none (argument_fault fields (takes a)) (IsOfKinds fields (takes a)) (λ n k. kind_from_none (takes a) (column_kind fields n) (none_of_both (column_fault fields n) _ k).1) (argument_names a) h

-- A set function that takes its column has no fault.
none_from_aggregate : (fields : List Field) (a : Aggregate) → IsTypedAggregate fields a → aggregate_fault fields a ≡ None
none_from_aggregate fields a h =
    none_from_all (argument_fault fields (takes a)) (IsOfKinds fields (takes a))
    (λ n k. both_none (column_fault fields n) _ (passes (is_some (place_of fields n)) _ (placed (kind_at fields) (place_of fields n) (Contains (takes a)) k)) (none_from_kind (takes a) (column_kind fields n) k))
    (argument_names a) h

-- Of a choice that comes to none, the test holds and its first side is none.
chosen : {A : Type 0} (t : Bool) (o : Option A) (x : A) → cond t o (Some x) ≡ None → (t ≡ true) × (o ≡ None)
chosen true o x h = (refl, h)
chosen false o x h = absurd cc

-- ---- GROUPING

-- A GROUPING without a fault is typed.
grouping_from_none : (fields : List Field) (grouped : List ℕ) (c : Clause) (ns : List (List ℕ)) → grouping_fault fields grouped c ns ≡ None → IsTypedGrouping fields grouped c ns
grouping_from_none fields grouped clause.Where ns h = absurd cc
grouping_from_none fields grouped clause.Select ns h = all_from_none (grouped_fault fields grouped) (IsGrouped fields grouped) (λ n k. grouped_from_none grouped n (place_of fields n) k) ns h
grouping_from_none fields grouped clause.Having ns h = all_from_none (grouped_fault fields grouped) (IsGrouped fields grouped) (λ n k. grouped_from_none grouped n (place_of fields n) k) ns h
grouping_from_none fields grouped clause.OrderBy ns h = all_from_none (grouped_fault fields grouped) (IsGrouped fields grouped) (λ n k. grouped_from_none grouped n (place_of fields n) k) ns h

-- A typed GROUPING has no fault.
none_from_grouping : (fields : List Field) (grouped : List ℕ) (c : Clause) (ns : List (List ℕ)) → IsTypedGrouping fields grouped c ns → grouping_fault fields grouped c ns ≡ None
none_from_grouping fields grouped clause.Where ns h = absurd h
none_from_grouping fields grouped clause.Select ns h = none_from_all (grouped_fault fields grouped) (IsGrouped fields grouped) (λ n k. none_from_grouped grouped n (place_of fields n) k) ns h
none_from_grouping fields grouped clause.Having ns h = none_from_all (grouped_fault fields grouped) (IsGrouped fields grouped) (λ n k. none_from_grouped grouped n (place_of fields n) k) ns h
none_from_grouping fields grouped clause.OrderBy ns h = none_from_all (grouped_fault fields grouped) (IsGrouped fields grouped) (λ n k. none_from_grouped grouped n (place_of fields n) k) ns h

-- ---- types

-- Types without a fault are one type.
agreed : (a b : Option Kind) → agreement_fault a b ≡ None → IsOfOneKind a b
agreed None b h = absurd cc
agreed (Some k) None h = absurd cc
agreed (Some k) (Some l) h = (l, ap Some (same_from_test k l (holds (same_kind k l) _ h)), refl)

-- Types that are one have no fault.
none_from_agreed : (a b : Option Kind) → IsOfOneKind a b → agreement_fault a b ≡ None
none_from_agreed a b h = rw (h.1, h.2) (passes (same_kind h.0 h.0) _ (same_itself h.0))

-- ---- expressions and predicates

mutual
  -- An expression without a fault is typed.
  pub expression_from_none : (fields : List Field) (grouped : List ℕ) (c : Clause) (e : Expression) → expression_fault fields grouped c e ≡ None → IsTypedExpression fields grouped c e
  expression_from_none fields grouped c (name n) h = name_from_none fields grouped c n h
  expression_from_none fields grouped c (grouping ns) h = grouping_from_none fields grouped c ns h
  expression_from_none fields grouped c (function f) h = function_from_none fields c f h

  -- A set function without a fault is typed.
  function_from_none : (fields : List Field) (c : Clause) (f : SetFunction) → function_fault fields c f ≡ None → IsTypedFunction fields c f
  function_from_none fields c (over_all a) h = let k = chosen (may_stand c a) (aggregate_fault fields a) FunctionNotAllowed h in (k.0, aggregate_from_none fields a k.1)
  function_from_none fields c (over_filtered a p) h =
      let k = chosen (may_stand c a) (option_or (aggregate_fault fields a) (predicate_fault fields [] clause.Where p)) FunctionNotAllowed h in
      let l = none_of_both (aggregate_fault fields a) (predicate_fault fields [] clause.Where p) k.1 in
      (k.0, aggregate_from_none fields a l.0, predicate_from_none fields [] clause.Where p l.1)

  -- An operand without a fault is typed.
  pub operand_from_none : (fields : List Field) (grouped : List ℕ) (c : Clause) (x : Operand) → operand_fault fields grouped c x ≡ None → IsTypedOperand fields grouped c x
  operand_from_none fields grouped c (expression e) h = expression_from_none fields grouped c e h
  operand_from_none fields grouped c (literal a) h = tt

  -- A predicate without a fault is typed.
  pub predicate_from_none : (fields : List Field) (grouped : List ℕ) (c : Clause) (p : Predicate) → predicate_fault fields grouped c p ≡ None → IsTypedPredicate fields grouped c p
  predicate_from_none fields grouped c (or_of ps) h = parts_from_none fields grouped c ps h
  predicate_from_none fields grouped c (and_of ps) h = parts_from_none fields grouped c ps h
  predicate_from_none fields grouped c (not_of p) h = predicate_from_none fields grouped c p h
  predicate_from_none fields grouped c (truth_test p n t) h = predicate_from_none fields grouped c p h
  predicate_from_none fields grouped c (compare x o y) h =
      let i = none_of_both (operand_fault fields grouped c x) _ h in
      let j = none_of_both (operand_fault fields grouped c y) _ i.1 in
      (operand_from_none fields grouped c x i.0, operand_from_none fields grouped c y j.0, agreed (operand_kind fields x) (operand_kind fields y) j.1)
  predicate_from_none fields grouped c (between x n y z) h =
      let i = none_of_both (operand_fault fields grouped c x) _ h in
      let j = none_of_both (operand_fault fields grouped c y) _ i.1 in
      let k = none_of_both (operand_fault fields grouped c z) _ j.1 in
      let l = none_of_both (agreement_fault (operand_kind fields x) (operand_kind fields y)) _ k.1 in
      (operand_from_none fields grouped c x i.0, operand_from_none fields grouped c y j.0, operand_from_none fields grouped c z k.0, agreed (operand_kind fields x) (operand_kind fields y) l.0, agreed (operand_kind fields x) (operand_kind fields z) l.1)
  predicate_from_none fields grouped c (member x n ls) h =
      let i = none_of_both (operand_fault fields grouped c x) _ h in
      (operand_from_none fields grouped c x i.0, all_from_none (λ a. agreement_fault (operand_kind fields x) (Some (literal_kind a))) (λ a. IsOfOneKind (operand_kind fields x) (Some (literal_kind a))) (λ a k. agreed (operand_kind fields x) (Some (literal_kind a)) k) ls i.1)
  predicate_from_none fields grouped c (null_test x n) h = operand_from_none fields grouped c x h
  predicate_from_none fields grouped c (column n) h =
      let i = none_of_both (name_fault fields grouped c n) _ h in
      (name_from_none fields grouped c n i.0, one_kind kind.Bool (column_kind fields n) (kind_from_none (kind.Bool ∷ []) (column_kind fields n) i.1))

  -- Parts without a fault are typed.
  parts_from_none : (fields : List Field) (grouped : List ℕ) (c : Clause) (ps : Predicates) → parts_fault fields grouped c ps ≡ None → AreTypedParts fields grouped c ps
  parts_from_none fields grouped c no_parts h = tt
  parts_from_none fields grouped c (part p ps) h =
      let i = none_of_both (predicate_fault fields grouped c p) _ h in
      (predicate_from_none fields grouped c p i.0, parts_from_none fields grouped c ps i.1)

mutual
  -- A typed expression has no fault.
  pub none_from_expression : (fields : List Field) (grouped : List ℕ) (c : Clause) (e : Expression) → IsTypedExpression fields grouped c e → expression_fault fields grouped c e ≡ None
  none_from_expression fields grouped c (name n) h = none_from_name fields grouped c n h
  none_from_expression fields grouped c (grouping ns) h = none_from_grouping fields grouped c ns h
  none_from_expression fields grouped c (function f) h = none_from_function fields c f h

  -- A typed set function has no fault.
  none_from_function : (fields : List Field) (c : Clause) (f : SetFunction) → IsTypedFunction fields c f → function_fault fields c f ≡ None
  none_from_function fields c (over_all a) h = rw (h.0) (none_from_aggregate fields a h.1)
  none_from_function fields c (over_filtered a p) h =
      rw (h.0) (both_none (aggregate_fault fields a) (predicate_fault fields [] clause.Where p) (none_from_aggregate fields a h.1) (none_from_predicate fields [] clause.Where p h.2))

  -- A typed operand has no fault.
  none_from_operand : (fields : List Field) (grouped : List ℕ) (c : Clause) (x : Operand) → IsTypedOperand fields grouped c x → operand_fault fields grouped c x ≡ None
  none_from_operand fields grouped c (expression e) h = none_from_expression fields grouped c e h
  none_from_operand fields grouped c (literal a) h = refl

  -- A typed predicate has no fault.
  pub none_from_predicate : (fields : List Field) (grouped : List ℕ) (c : Clause) (p : Predicate) → IsTypedPredicate fields grouped c p → predicate_fault fields grouped c p ≡ None
  none_from_predicate fields grouped c (or_of ps) h = none_from_parts fields grouped c ps h
  none_from_predicate fields grouped c (and_of ps) h = none_from_parts fields grouped c ps h
  none_from_predicate fields grouped c (not_of p) h = none_from_predicate fields grouped c p h
  none_from_predicate fields grouped c (truth_test p n t) h = none_from_predicate fields grouped c p h
  none_from_predicate fields grouped c (compare x o y) h =
      both_none _ _ (none_from_operand fields grouped c x h.0) (both_none _ _ (none_from_operand fields grouped c y h.1) (none_from_agreed (operand_kind fields x) (operand_kind fields y) h.2))
  none_from_predicate fields grouped c (between x n y z) h =
      both_none _ _ (none_from_operand fields grouped c x h.0) (both_none _ _ (none_from_operand fields grouped c y h.1) (both_none _ _ (none_from_operand fields grouped c z h.2)
      (both_none _ _ (none_from_agreed (operand_kind fields x) (operand_kind fields y) h.3) (none_from_agreed (operand_kind fields x) (operand_kind fields z) h.4))))
  none_from_predicate fields grouped c (member x n ls) h =
      both_none _ _ (none_from_operand fields grouped c x h.0) (none_from_all (λ a. agreement_fault (operand_kind fields x) (Some (literal_kind a))) (λ a. IsOfOneKind (operand_kind fields x) (Some (literal_kind a))) (λ a k. none_from_agreed (operand_kind fields x) (Some (literal_kind a)) k) ls h.1)
  none_from_predicate fields grouped c (null_test x n) h = none_from_operand fields grouped c x h
  none_from_predicate fields grouped c (column n) h =
      both_none _ _ (none_from_name fields grouped c n h.0) (rw h.1 refl)

  -- Typed parts have no fault.
  none_from_parts : (fields : List Field) (grouped : List ℕ) (c : Clause) (ps : Predicates) → AreTypedParts fields grouped c ps → parts_fault fields grouped c ps ≡ None
  none_from_parts fields grouped c no_parts h = refl
  none_from_parts fields grouped c (part p ps) h = both_none _ _ (none_from_predicate fields grouped c p h.0) (none_from_parts fields grouped c ps h.1)

-- A clause without a fault is typed.
pub clause_from_none : (fields : List Field) (grouped : List ℕ) (c : Clause) (o : Option Predicate) → clause_fault fields grouped c o ≡ None → IsTypedClause fields grouped c o
clause_from_none fields grouped c None h = tt
clause_from_none fields grouped c (Some p) h = predicate_from_none fields grouped c p h

-- A typed clause has no fault.
pub none_from_clause : (fields : List Field) (grouped : List ℕ) (c : Clause) (o : Option Predicate) → IsTypedClause fields grouped c o → clause_fault fields grouped c o ≡ None
none_from_clause fields grouped c None h = refl
none_from_clause fields grouped c (Some p) h = none_from_predicate fields grouped c p h
