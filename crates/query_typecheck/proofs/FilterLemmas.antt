-- The different filters of a query: how they are typed, and where each set function finds its own.
use Rattle.std.proofs.Common.{◌≡◌, ◌∙◌, ℕ, ◌≤◌, nat_lt, Bool, true, false, cond, not, ◌||◌, List, [], ◌∷◌, ◌++◌, length, map, Option, Some, None, refl, subst, sym, ap, arith}
use Rattle.std.specs.Prelude.{⊤, filter, find, position, slice_get}
use Rattle.std.specs.List.{AllByRecursion, cons_option, filter_map, flat_map, list_any, position_or_len}
use Rattle.std.specs.Option.{option_and_then, option_map, option_map_or}
use Rattle.std.proofs.lemmas.Bool.Decides.{nat_tests}
use Rattle.std.proofs.lemmas.List.Elements.{All-from_recursion, recursion_from_All}
use Rattle.std.proofs.lemmas.List.Folds.{find_at}
use Rattle.std.proofs.lemmas.Option.{slice_get_past}
use Rattle.semantics.specs.Columns.{Field}
use Rattle.semantics.specs.Syntax.{Expression, SetFunction, Operand, Predicate, Predicates, SelectItem, SortKey, Query, name, grouping, function, over_all, over_filtered, expression, literal, or_of, and_of, not_of, truth_test, compare, between, member, null_test, column, no_parts, part}
use Rattle.semantics.specs.declared.function.ColumnFunction.{ColumnFunction}
use Rattle.query_typecheck.specs.declared.scope.Clause.{Clause}
use Rattle.query_typecheck.specs.declared.scope.Clause.TheVariants as clause
use Rattle.semantics.specs.Names.{PlannedFunction, aggregate_of, column_function, filter_of, planned_function}
use Rattle.semantics.specs.Lists.{distinct}
use Rattle.semantics.specs.Sets.{grouping_places}
use Rattle.semantics.specs.Inside.Same.{same_predicate, same_planned}
use Rattle.query_resolve.specs.Functions.{different_filters, filters_of, indexed_function}
use Rattle.semantics.specs.SetFunctions.{expression_functions, functions_of, operand_functions, set_functions}
use Rattle.query_resolve.specs.Collecting.{clause_functions, parts_functions, predicate_functions}
use Rattle.query_resolve.proofs.AtomFunctions.{collected}
use Rattle.query_typecheck.specs.Typing.{AreTypedParts, IsTyped, IsTypedClause, IsTypedExpression, IsTypedFunction, IsTypedOperand, IsTypedPredicate}
use Rattle.semantics.specs.Types.{key_expression}
use Rattle.query_typecheck.specs.Filters.{AreTypedFilters, LeadBack, filters_at}
use Rattle.query_resolve.proofs.Distinct.{any_distinct}
use Rattle.query_resolve.proofs.Rows.{or_true}
use Rattle.query_resolve.proofs.SameTrees.{predicate_itself, predicates_are_same}

-- ---- what holds of each element

-- Of two lists in a row.
each_append : {A : Type 0} (P : A → Type 0) (xs ys : List A) → AllByRecursion P xs → AllByRecursion P ys → AllByRecursion P (xs ++ ys)
each_append P [] ys h k = k
each_append P (x ∷ xs) ys h k = (h.0, each_append P xs ys h.1 k)

-- Of lists in a row.
each_flat : {A B : Type 0} (P : B → Type 0) (Q : A → Type 0) (f : A → List B) → ((x : A) → Q x → AllByRecursion P (f x)) → (xs : List A) → AllByRecursion Q xs → AllByRecursion P (flat_map f xs)
each_flat P Q f step [] h = tt
each_flat P Q f step (x ∷ xs) h = each_append P (f x) (flat_map f xs) (step x h.0) (each_flat P Q f step xs h.1)

-- Of what a test keeps.
each_kept : {A : Type 0} (P : A → Type 0) (k : A → Bool) (xs : List A) → AllByRecursion P xs → AllByRecursion P (filter k xs)
each_kept P k [] h = tt
each_kept P k (x ∷ xs) h = elim (k x) as (λ (b : Bool). AllByRecursion P (cond b (x ∷ filter k xs) (filter k xs))) [ true ↦ (h.0, each_kept P k xs h.1) | false ↦ each_kept P k xs h.1 ]

-- Of a list without repeats.
each_distinct : {A : Type 0} (P : A → Type 0) (same : A → A → Bool) (xs : List A) → AllByRecursion P xs → AllByRecursion P (distinct same xs)
each_distinct P same [] h = tt
each_distinct P same (x ∷ xs) h = (h.0, each_kept P (λ y. not (same x y)) (distinct same xs) (each_distinct P same xs h.1))

-- ---- typed filters

-- The filter of a set function is typed as WHERE is, where it has one.
abbrev HasTypedFilter : List Field → SetFunction → Type 0
HasTypedFilter fields f = IsTypedClause fields [] clause.Where (filter_of f)

typed_function : (fields : List Field) (c : Clause) (f : SetFunction) → IsTypedFunction fields c f → HasTypedFilter fields f
typed_function fields c (over_all a) h = tt
typed_function fields c (over_filtered a p) h = h.2

typed_expression : (fields : List Field) (grouped : List ℕ) (c : Clause) (e : Expression) → IsTypedExpression fields grouped c e → AllByRecursion (HasTypedFilter fields) (expression_functions e)
typed_expression fields grouped c (name n) h = tt
typed_expression fields grouped c (grouping ns) h = tt
typed_expression fields grouped c (function f) h = (typed_function fields c f h, tt)

typed_operand : (fields : List Field) (grouped : List ℕ) (c : Clause) (x : Operand) → IsTypedOperand fields grouped c x → AllByRecursion (HasTypedFilter fields) (operand_functions x)
typed_operand fields grouped c (expression e) h = typed_expression fields grouped c e h
typed_operand fields grouped c (literal a) h = tt

mutual
  typed_predicate : (fields : List Field) (grouped : List ℕ) (c : Clause) (p : Predicate) → IsTypedPredicate fields grouped c p → AllByRecursion (HasTypedFilter fields) (predicate_functions p)
  typed_predicate fields grouped c (or_of ps) h = typed_parts fields grouped c ps h
  typed_predicate fields grouped c (and_of ps) h = typed_parts fields grouped c ps h
  typed_predicate fields grouped c (not_of p) h = typed_predicate fields grouped c p h
  typed_predicate fields grouped c (truth_test p n t) h = typed_predicate fields grouped c p h
  typed_predicate fields grouped c (compare x o y) h = each_append (HasTypedFilter fields) (operand_functions x) (operand_functions y) (typed_operand fields grouped c x h.0) (typed_operand fields grouped c y h.1)
  typed_predicate fields grouped c (between x n y z) h =
      each_append (HasTypedFilter fields) (operand_functions x ++ operand_functions y) (operand_functions z)
      (each_append (HasTypedFilter fields) (operand_functions x) (operand_functions y) (typed_operand fields grouped c x h.0) (typed_operand fields grouped c y h.1))
      (typed_operand fields grouped c z h.2)
  typed_predicate fields grouped c (member x n ls) h = typed_operand fields grouped c x h.0
  typed_predicate fields grouped c (null_test x n) h = typed_operand fields grouped c x h
  typed_predicate fields grouped c (column n) h = tt

  typed_parts : (fields : List Field) (grouped : List ℕ) (c : Clause) (ps : Predicates) → AreTypedParts fields grouped c ps → AllByRecursion (HasTypedFilter fields) (parts_functions ps)
  typed_parts fields grouped c no_parts h = tt
  typed_parts fields grouped c (part p ps) h = each_append (HasTypedFilter fields) (predicate_functions p) (parts_functions ps) (typed_predicate fields grouped c p h.0) (typed_parts fields grouped c ps h.1)

typed_clause : (fields : List Field) (grouped : List ℕ) (c : Clause) (o : Option Predicate) → IsTypedClause fields grouped c o → AllByRecursion (HasTypedFilter fields) (option_map_or predicate_functions o [])
typed_clause fields grouped c None h = tt
typed_clause fields grouped c (Some p) h = typed_predicate fields grouped c p h

typed_key : (fields : List Field) (grouped : List ℕ) (items : List SelectItem) (e : Expression) → IsTypedExpression fields grouped clause.OrderBy (key_expression items e) → AllByRecursion (HasTypedFilter fields) (expression_functions e)
typed_key fields grouped items (name n) h = tt
typed_key fields grouped items (grouping ns) h = tt
typed_key fields grouped items (function f) h = (typed_function fields clause.OrderBy f h, tt)

-- The set functions of a typed query have typed filters.
typed_functions : (fields : List Field) (t : Query) → IsTyped fields t → AllByRecursion (HasTypedFilter fields) (set_functions t)
typed_functions fields t h =
    let grouped = grouping_places fields t in
    let P = HasTypedFilter fields in
    let Q : SelectItem → Type 0 = λ i. IsTypedExpression fields grouped clause.Select i.expression in
    let R : SortKey → Type 0 = λ k. IsTypedExpression fields grouped clause.OrderBy (key_expression t.items k.expression) in
    subst (AllByRecursion P) (collected t)
    (each_append P (flat_map (λ i. expression_functions i.expression) t.items ++ option_map_or predicate_functions t.having_condition []) (flat_map (λ k. expression_functions k.expression) t.keys)
    (each_append P (flat_map (λ i. expression_functions i.expression) t.items) (option_map_or predicate_functions t.having_condition [])
    (each_flat P Q (λ (i : SelectItem). expression_functions i.expression) (λ i k. typed_expression fields grouped clause.Select i.expression k) t.items (recursion_from_All Q t.items h.items))
    (typed_clause fields grouped clause.Having t.having_condition h.having_condition))
    (each_flat P R (λ (k : SortKey). expression_functions k.expression) (λ k e. typed_key fields grouped t.items k.expression e) t.keys (recursion_from_All R t.keys h.keys)))

-- A planned set function has the filter of the one that it is made of.
planned_one : (fields : List Field) (o : Option ColumnFunction) (q : Option Predicate) (fs : List PlannedFunction) → IsTypedClause fields [] clause.Where q → AllByRecursion (λ (f : PlannedFunction). IsTypedClause fields [] clause.Where f.filter) fs → AllByRecursion (λ (f : PlannedFunction). IsTypedClause fields [] clause.Where f.filter) (cons_option (option_map (λ g. record { function = g; filter = q }) o) fs)
planned_one fields None q fs h k = k
planned_one fields (Some g) q fs h k = (h, k)

planned_each : (fields : List Field) (fs : List SetFunction) → AllByRecursion (HasTypedFilter fields) fs → AllByRecursion (λ (f : PlannedFunction). IsTypedClause fields [] clause.Where f.filter) (filter_map (planned_function fields) fs)
planned_each fields [] h = tt
planned_each fields (f ∷ fs) h = planned_one fields (column_function fields (aggregate_of f)) (filter_of f) (filter_map (planned_function fields) fs) h.0 (planned_each fields fs h.1)

-- The filters that there are.
filters_one : (fields : List Field) (o : Option Predicate) (ps : List Predicate) → IsTypedClause fields [] clause.Where o → AllByRecursion (IsTypedPredicate fields [] clause.Where) ps → AllByRecursion (IsTypedPredicate fields [] clause.Where) (cons_option o ps)
filters_one fields None ps h k = k
filters_one fields (Some p) ps h k = (h, k)

filters_each : (fields : List Field) (fs : List PlannedFunction) → AllByRecursion (λ (f : PlannedFunction). IsTypedClause fields [] clause.Where f.filter) fs → AllByRecursion (IsTypedPredicate fields [] clause.Where) (filter_map (λ (f : PlannedFunction). f.filter) fs)
filters_each fields [] h = tt
filters_each fields (f ∷ fs) h = filters_one fields f.filter (filter_map (λ (f : PlannedFunction). f.filter) fs) h.0 (filters_each fields fs h.1)

-- Each filter of a typed query is typed as WHERE is.
pub typed_filters : (fields : List Field) (t : Query) → IsTyped fields t → AreTypedFilters fields t
typed_filters fields t h =
    let P : PlannedFunction → Type 0 = λ f. IsTypedClause fields [] clause.Where f.filter in
    let planned = each_distinct P same_planned (filter_map (planned_function fields) (set_functions t)) (planned_each fields (set_functions t) (typed_functions fields t h)) in
    All-from_recursion (IsTypedPredicate fields [] clause.Where) (filters_of fields t)
    (each_distinct (IsTypedPredicate fields [] clause.Where) same_predicate (filter_map (λ (f : PlannedFunction). f.filter) (functions_of fields t)) (filters_each fields (functions_of fields t) planned))

-- ---- indexes

-- A filter is among others, where there is one.
abbrev IsAmong : List Predicate → Option Predicate → Type 0
IsAmong filters None = ⊤
IsAmong filters (Some p) = list_any (λ q. same_predicate q p) filters ≡ true

-- What is among some filters is found there.
found_itself : (p : Predicate) (filters : List Predicate) → list_any (λ q. same_predicate q p) filters ≡ true → find (same_predicate p) filters ≡ Some p
found_itself p [] h = absurd cc
found_itself p (q ∷ qs) h =
    elim (same_predicate p q) as (λ (b : Bool). same_predicate p q ≡ b → cond b (Some q) (find (same_predicate p) qs) ≡ Some p) [
      | true ↦ λ e. ap Some (sym (predicates_are_same p q e))
      | false ↦ λ e. found_itself p qs (
          elim (same_predicate q p) as (λ (b : Bool). same_predicate q p ≡ b → (b || list_any (λ r. same_predicate r p) qs) ≡ true → list_any (λ r. same_predicate r p) qs ≡ true) [
            | true ↦ λ d _. (let same : same_predicate p q ≡ true = ap (same_predicate p) (predicates_are_same q p d) ∙ predicate_itself p in let wrong : true ≡ false = sym same ∙ e in absurd cc)
            | false ↦ λ _ k. k
          ] refl h)
    ] refl

-- The element at the place of the first that passes a test is the first that passes it.
at_position : {A : Type 0} (test : A → Bool) (xs : List A) → option_and_then (slice_get xs) (position test xs) ≡ find test xs
at_position {A} test xs =
    elim (nat_lt (position_or_len test xs) (length xs)) as (λ (b : Bool). nat_lt (position_or_len test xs) (length xs) ≡ b → option_and_then (slice_get xs) (cond b (Some (position_or_len test xs)) None) ≡ find test xs) [
      | true ↦ λ _. sym (find_at test xs)
      | false ↦ λ e. let past : length xs ≤ position_or_len test xs = grind (arith, nat_tests) in sym (find_at test xs ∙ slice_get_past xs (position_or_len test xs) past)
    ] refl

-- The index of a filter that is among others leads to it.
leads_back : (filters : List Predicate) (o : Option Predicate) → IsAmong filters o → option_and_then (slice_get filters) (option_and_then (λ p. position (same_predicate p) filters) o) ≡ o
leads_back filters None h = refl
leads_back filters (Some p) h = at_position (same_predicate p) filters ∙ found_itself p filters h

-- Where the filters of some functions are among others, their indexes lead to them.
all_lead_back : (filters : List Predicate) (fs : List PlannedFunction) → AllByRecursion (λ (f : PlannedFunction). IsAmong filters f.filter) fs → filters_at filters (map (indexed_function filters) fs) ≡ map (λ (f : PlannedFunction). f.filter) fs
all_lead_back filters [] h = refl
all_lead_back filters (f ∷ fs) h =
    let rest = filters_at filters (map (indexed_function filters) fs) in
    ap (λ (o : Option Predicate). o ∷ rest) (leads_back filters f.filter h.0) ∙ ap (λ (os : List (Option Predicate)). f.filter ∷ os) (all_lead_back filters fs h.1)

-- What is among some is so behind one more.
still_among : (p : Predicate) (o : Option Predicate) (qs : List Predicate) → list_any (λ q. same_predicate q p) qs ≡ true → list_any (λ q. same_predicate q p) (cons_option o qs) ≡ true
still_among p None qs h = h
still_among p (Some r) qs h = rw h (or_true (same_predicate r p))

-- The first is among them.
first_among : (all : List Predicate) (o : Option Predicate) (qs : List Predicate) → ((p : Predicate) → list_any (λ q. same_predicate q p) (cons_option o qs) ≡ true → list_any (λ q. same_predicate q p) all ≡ true) → IsAmong all o
first_among all None qs inside = tt
first_among all (Some r) qs inside = inside r (let e = predicate_itself r in rw e refl)

-- Filters that are among others, function by function.
each_among : (all : List Predicate) (fs : List PlannedFunction) → ((p : Predicate) → list_any (λ q. same_predicate q p) (filter_map (λ (f : PlannedFunction). f.filter) fs) ≡ true → list_any (λ q. same_predicate q p) all ≡ true) → AllByRecursion (λ (f : PlannedFunction). IsAmong all f.filter) fs
each_among all [] inside = tt
each_among all (f ∷ fs) inside =
    let rest = filter_map (λ (f : PlannedFunction). f.filter) fs in
    (first_among all f.filter rest inside, each_among all fs (λ p h. inside p (still_among p f.filter rest h)))

-- The index of each set function of a query leads to its filter.
pub indexes_lead_back : (fields : List Field) (t : Query) → LeadBack fields t
indexes_lead_back fields t =
    let fs = functions_of fields t in
    all_lead_back (different_filters fs) fs
    (each_among (different_filters fs) fs (λ p h. any_distinct same_predicate predicates_are_same p (filter_map (λ (f : PlannedFunction). f.filter) fs) ∙ h))
