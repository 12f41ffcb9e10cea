-- The first fault of a query stands in it.
use Rattle.std.proofs.Common.{◌≡◌, ◌≢◌, ◌∙◌, ◌==◌, ◌⊎◌, ℕ, zero, suc, ◌<◌, nat_lt, Bool, true, false, cond, List, [], ◌∷◌, length, map, Option, Some, None, Contains, refl, sym, ap, subst, inl, inr, arith}
use Rattle.std.specs.Prelude.{IsSome, is_some}
use Rattle.std.specs.List.{cons_option, list_any, position_or_len}
use Rattle.std.specs.Option.{option_or, option_and_then}
use Rattle.std.specs.Str.{bytes_eq}
use Rattle.std.proofs.lemmas.Bool.Decides.{nat_tests}
use Rattle.std.proofs.lemmas.List.{length-map}
use Rattle.std.proofs.lemmas.List.Elements.{Contains-append_right}
use Rattle.semantics.specs.declared.kind.Kind.{Kind}
use Rattle.semantics.specs.Columns.{Field, names_of}
use Rattle.semantics.specs.declared.aggregate.Aggregate.{Aggregate}
use Rattle.semantics.specs.Syntax.{Expression, SetFunction, Predicate, Query, name, grouping, function, over_all, over_filtered}
use Rattle.semantics.specs.declared.query_fault.QueryFault.{QueryFault}
use Rattle.semantics.specs.declared.query_fault.QueryFault.TheVariants.{UnknownColumn, TypesDisagree, NotGrouped, FunctionNotAllowed}
use Rattle.query_typecheck.specs.declared.scope.Clause.{Clause}
use Rattle.query_typecheck.specs.declared.scope.Clause.TheVariants as clause
use Rattle.semantics.specs.Names.{column_kind, kind_at, place_of, places_of, aggregate_of}
use Rattle.semantics.specs.Sets.{grouping_names, grouping_places}
use Rattle.query_typecheck.specs.Typing.{IsColumn, argument_names, may_stand, takes}
use Rattle.query_typecheck.specs.FirstFaults.{first_fault, fault_unless, column_fault, grouped_at_fault, grouped_fault, name_fault, kind_fault, argument_fault, aggregate_fault, function_fault, grouping_fault, expression_fault, predicate_fault}
use Rattle.semantics.specs.Faults.{same_kind}
use Rattle.query_typecheck.specs.Standing.{IsFilterIn, IsOfOtherKind, IsWrittenIn, IsViolation, StandsIn, names, outer_names}
use Rattle.query_resolve.proofs.Rows.{or_true}
use Rattle.query_resolve.proofs.Distinct.{any_distinct}
use Rattle.query_typecheck.proofs.TypedLemmas.{holds, test_from_among}

-- ---- tests in a row

-- Of two tests in a row the fault is the first's, or the second's where the first has none.
pub either : (a b : Option QueryFault) (f : QueryFault) (P : Type 0) → (a ≡ Some f → P) → (a ≡ None → b ≡ Some f → P) → option_or a b ≡ Some f → P
either None b f P first second h = second refl h
either (Some x) b f P first second h = first h

-- A test with a fault fails, and the fault is its own.
pub fails : (t : Bool) (f g : QueryFault) → fault_unless t f ≡ Some g → (t ≡ false) × (f ≡ g)
fails true f g h = absurd cc
fails false f g h = (refl, cc)

-- The first fault of the elements of a list is that of one of them.
pub first_at : {A : Type 0} (test : A → Option QueryFault) (xs : List A) (f : QueryFault) → first_fault test xs ≡ Some f → (x : A) × Contains xs x × (test x ≡ Some f)
first_at test [] f h = absurd cc
first_at {A} test (x ∷ xs) f h =
    either (test x) (first_fault test xs) f ((y : A) × Contains (x ∷ xs) y × (test y ≡ Some f))
    (λ here. (x, (0, omega arith, refl), here))
    (λ _ later. let found = first_at test xs f later in (found.0, Contains-append_right (x ∷ []) xs found.0 found.1, found.2))
    h

-- An element of a list, under a map.
pub mapped : {A B : Type 0} (g : A → B) (xs : List A) (x : A) → Contains xs x → Contains (map g xs) (g x)
mapped g [] x h = let below = h.1 in absurd (omega arith)
mapped {A} {B} g (y ∷ ys) x (zero, below, e) = (0, omega arith, ap g e)
mapped {A} {B} g (y ∷ ys) x (suc k, below, e) = Contains-append_right (g y ∷ []) (map g ys) (g x) (mapped g ys x (k, omega arith, e))

-- ---- columns

-- A place within the columns has a type.
kind_within : (fields : List Field) (place : ℕ) → place < length fields → IsSome (kind_at fields place)
kind_within [] place below = absurd (omega arith)
kind_within (field ∷ fields) zero below = refl
kind_within (field ∷ fields) (suc place) below = kind_within fields place (omega arith)

-- A place that was found is within what was searched.
within_searched : (q n p : ℕ) → cond (nat_lt q n) (Some q) None ≡ Some p → p < n
within_searched q n p h =
    elim (nat_lt q n) as (λ (t : Bool). nat_lt q n ≡ t → cond t (Some q) None ≡ Some p → p < n) [
      | true ↦ λ e f. let same : q ≡ p = cc in grind (arith, nat_tests)
      | false ↦ λ e f. absurd cc
    ] refl h

-- The place of a column is within the columns.
place_within : (fields : List Field) (n : List ℕ) (place : ℕ) → place_of fields n ≡ Some place → place < length fields
place_within fields n place h =
    let long = length-map fields (λ (f : Field). f.name) in
    let below = within_searched (position_or_len (bytes_eq n) (names_of fields)) (length (names_of fields)) place h in
    omega (arith, long, below)

-- What is found at a place that has a type has it.
kind_found : (fields : List Field) (o : Option ℕ) → ((place : ℕ) → o ≡ Some place → place < length fields) → is_some o ≡ true → IsSome (option_and_then (kind_at fields) o)
kind_found fields None below h = absurd cc
kind_found fields (Some place) below h = kind_within fields place (below place refl)

-- A column has a type.
pub column_has_kind : (fields : List Field) (n : List ℕ) → IsColumn fields n → IsSome (column_kind fields n)
column_has_kind fields n h = kind_found fields (place_of fields n) (place_within fields n) h

-- What is there.
there : {A : Type 0} (o : Option A) → IsSome o → (x : A) × (o ≡ Some x)
there None h = absurd cc
there (Some x) h = (x, refl)

-- What is something is there.
pub is_there : {A : Type 0} (o : Option A) (x : A) → o ≡ Some x → IsSome o
is_there None x h = absurd cc
is_there (Some y) x h = refl

-- What passes a test among some passes it behind one more, where there is one.
any_behind : {A : Type 0} (test : A → Bool) (o : Option A) (xs : List A) → list_any test xs ≡ true → list_any test (cons_option o xs) ≡ true
any_behind test None xs h = h
any_behind test (Some x) xs h = rw h (or_true (test x))

-- The place of the column of a name is among the places of names that have it.
place_met : (fields : List Field) (names : List (List ℕ)) (n : List ℕ) (place : ℕ) → place_of fields n ≡ Some place → Contains names n → list_any (λ g. g == place) (places_of fields names) ≡ true
place_met fields [] n place at h = let below = h.1 in absurd (omega arith)
place_met fields (m ∷ ms) n place at (zero, below, e) =
    let here : place_of fields m ≡ Some place = ap (place_of fields) e ∙ at in
    let same : (place == place) ≡ true = grind (arith, nat_tests) in
    rw here (rw same refl)
place_met fields (m ∷ ms) n place at (suc k, below, e) =
    any_behind (λ g. g == place) (place_of fields m) (places_of fields ms) (place_met fields ms n place at (k, omega arith, e))

-- The places of grouping columns are those of the names in GROUP BY.
grouping_met : (fields : List Field) (t : Query) (n : List ℕ) (place : ℕ) → place_of fields n ≡ Some place → Contains (grouping_names t) n → list_any (λ g. g == place) (grouping_places fields t) ≡ true
grouping_met fields t n place at h = any_distinct (λ a b. a == b) (λ a b e. grind (arith, nat_tests)) place (places_of fields (grouping_names t)) ∙ place_met fields (grouping_names t) n place at h

-- ---- names

-- A name without a column is unknown, where it is asked for.
pub column_stands : (fields : List Field) (t : Query) (n : List ℕ) (f : QueryFault) → Contains (grouping_names t) n ⊎ ((c : Clause) × (e : Expression) × StandsIn t c e × Contains (names e) n) → column_fault fields n ≡ Some f → IsViolation fields t f
column_stands fields t n f asked h =
    let k = fails (is_some (place_of fields n)) (UnknownColumn n) f h in
    subst (IsViolation fields t) k.1 (asked, λ is. let wrong : true ≡ false = sym is ∙ k.0 in let clash : ⊥ = cc in clash)

-- A name that is to be a grouping column has no column, or one at a place that is none of a
-- grouping column.
grouped_cases : (grouped n : List ℕ) (o : Option ℕ) (f : QueryFault) → grouped_at_fault grouped n o ≡ Some f → ((o ≡ None) × (UnknownColumn n ≡ f)) ⊎ ((place : ℕ) × (o ≡ Some place) × (list_any (λ g. g == place) grouped ≡ false) × (NotGrouped n ≡ f))
grouped_cases grouped n None f h = inl (refl, cc)
grouped_cases grouped n (Some place) f h = let k = fails (list_any (λ g. g == place) grouped) (NotGrouped n) f h in inr (place, refl, k.0, k.1)

-- A name that is to be a grouping column, and is none.
grouped_stands : (fields : List Field) (t : Query) (c : Clause) (e : Expression) (n : List ℕ) (f : QueryFault) → StandsIn t c e → c ≢ clause.Where → Contains (outer_names e) n → Contains (names e) n → grouped_fault fields (grouping_places fields t) n ≡ Some f → IsViolation fields t f
grouped_stands fields t c e n f at behind outer among h =
    elim (grouped_cases (grouping_places fields t) n (place_of fields n) f h) [
      | inl none ↦ subst (IsViolation fields t) none.1 (inr (c, e, at, among), λ is. let wrong : is_some (place_of fields n) ≡ false = rw none.0 refl in let clash : ⊥ = cc in clash)
      | inr some ↦ subst (IsViolation fields t) some.3 (c, e, at, behind, outer, is_there (place_of fields n) some.0 some.1, λ met. let found = grouping_met fields t n some.0 some.1 met in let not_found = some.2 in let clash : ⊥ = cc in clash)
    ]

-- No other clause is WHERE.
select_other : clause.Select ≢ clause.Where
select_other e = let clash : ⊥ = cc in clash

-- No other clause is WHERE.
having_other : clause.Having ≢ clause.Where
having_other e = let clash : ⊥ = cc in clash

-- No other clause is WHERE.
order_other : clause.OrderBy ≢ clause.Where
order_other e = let clash : ⊥ = cc in clash

-- A name that may not stand in its clause.
pub name_stands : (fields : List Field) (t : Query) (c : Clause) (n : List ℕ) (f : QueryFault) → StandsIn t c (name n) → name_fault fields (grouping_places fields t) c n ≡ Some f → IsViolation fields t f
name_stands fields t clause.Where n f at h = column_stands fields t n f (inr (clause.Where, name n, at, (0, omega arith, refl))) h
name_stands fields t clause.Select n f at h = grouped_stands fields t clause.Select (name n) n f at select_other (0, omega arith, refl) (0, omega arith, refl) h
name_stands fields t clause.Having n f at h = grouped_stands fields t clause.Having (name n) n f at having_other (0, omega arith, refl) (0, omega arith, refl) h
name_stands fields t clause.OrderBy n f at h = grouped_stands fields t clause.OrderBy (name n) n f at order_other (0, omega arith, refl) (0, omega arith, refl) h

-- Arguments of GROUPING that may not stand there.
all_grouped_stand : (fields : List Field) (t : Query) (c : Clause) (ns : List (List ℕ)) (f : QueryFault) → StandsIn t c (grouping ns) → c ≢ clause.Where → first_fault (grouped_fault fields (grouping_places fields t)) ns ≡ Some f → IsViolation fields t f
all_grouped_stand fields t c ns f at behind h =
    let found = first_at (grouped_fault fields (grouping_places fields t)) ns f h in
    grouped_stands fields t c (grouping ns) found.0 f at behind found.1 found.1 found.2

-- A GROUPING that may not stand in its clause, or whose arguments may not.
grouping_stands : (fields : List Field) (t : Query) (c : Clause) (ns : List (List ℕ)) (f : QueryFault) → StandsIn t c (grouping ns) → grouping_fault fields (grouping_places fields t) c ns ≡ Some f → IsViolation fields t f
grouping_stands fields t clause.Where ns f at h = let same : FunctionNotAllowed ≡ f = cc in subst (IsViolation fields t) same (clause.Where, grouping ns, at, refl)
grouping_stands fields t clause.Select ns f at h = all_grouped_stand fields t clause.Select ns f at select_other h
grouping_stands fields t clause.Having ns f at h = all_grouped_stand fields t clause.Having ns f at having_other h
grouping_stands fields t clause.OrderBy ns f at h = all_grouped_stand fields t clause.OrderBy ns f at order_other h

-- ---- set functions

-- A column whose type is none of these.
pub kind_fails : (fields : List Field) (kinds : List Kind) (x : List ℕ) (f : QueryFault) → IsColumn fields x → kind_fault kinds (column_kind fields x) ≡ Some f → (k : Kind) × (column_kind fields x ≡ Some k) × (Contains kinds k → ⊥) × (TypesDisagree ≡ f)
kind_fails fields kinds x f is h =
    let has = there (column_kind fields x) (column_has_kind fields x is) in
    let k = fails (list_any (same_kind has.0) kinds) TypesDisagree f (ap (kind_fault kinds) (sym has.1) ∙ h) in
    (has.0, has.1, λ among. let found = test_from_among kinds has.0 among in let not_found = k.0 in let clash : ⊥ = cc in clash, k.1)

-- A set function that does not take its column, where a name without a column stands, and a column
-- of another type.
argument_stands : (fields : List Field) (t : Query) (a : Aggregate) (f : QueryFault) → ((x : List ℕ) → Contains (argument_names a) x → column_fault fields x ≡ Some f → IsViolation fields t f) → (IsOfOtherKind fields a → TypesDisagree ≡ f → IsViolation fields t f) → aggregate_fault fields a ≡ Some f → IsViolation fields t f
argument_stands fields t a f unknown other h =
    let found = first_at (argument_fault fields (takes a)) (argument_names a) f h in
    either (column_fault fields found.0) _ f (IsViolation fields t f) (unknown found.0 found.1)
    (λ none later.
    let k = kind_fails fields (takes a) found.0 f (holds (is_some (place_of fields found.0)) (UnknownColumn found.0) none) later in
    other (found.0, k.0, found.1, k.1, k.2) k.3)
    found.2

-- A set function that stands in a clause and does not take its column.
aggregate_stands : (fields : List Field) (t : Query) (c : Clause) (g : SetFunction) (f : QueryFault) → StandsIn t c (function g) → aggregate_fault fields (aggregate_of g) ≡ Some f → IsViolation fields t f
aggregate_stands fields t c g f at h =
    argument_stands fields t (aggregate_of g) f (λ x among k. column_stands fields t x f (inr (c, function g, at, among)) k)
    (λ other same. subst (IsViolation fields t) same (inr (c, g, at, other)))
    h

-- A choice with a fault: the test holds and its first side has it, or the test fails and the fault
-- is the other one.
chosen_cases : (t : Bool) (o : Option QueryFault) (x f : QueryFault) → cond t o (Some x) ≡ Some f → ((t ≡ true) × (o ≡ Some f)) ⊎ ((t ≡ false) × (x ≡ f))
chosen_cases true o x f h = inl (refl, h)
chosen_cases false o x f h = inr (refl, cc)

-- Where a set function may stand is not WHERE.
not_where : (c : Clause) (a : Aggregate) → may_stand c a ≡ true → c ≢ clause.Where
not_where clause.Where a h e = absurd cc
not_where clause.Select a h e = select_other e
not_where clause.Having a h e = having_other e
not_where clause.OrderBy a h e = order_other e

-- A set function that may stand where it stands is written there, outside of each FILTER.
is_written : (t : Query) (c : Clause) (a : Aggregate) (e : Expression) → may_stand c a ≡ true → StandsIn t c e → IsWrittenIn t c e
is_written t clause.Where a e may at = absurd cc
is_written t clause.Select a e may at = at
is_written t clause.Having a e may at = at
is_written t clause.OrderBy a e may at = at

-- The fault of each FILTER in a query stands in the query.
abbrev pub FiltersStand : List Field → Query → QueryFault → Type 0
FiltersStand fields t f = (p : Predicate) → IsFilterIn t p → predicate_fault fields [] clause.Where p ≡ Some f → IsViolation fields t f

-- A set function that may not stand.
misplaced_stands : (fields : List Field) (t : Query) (c : Clause) (g : SetFunction) (f : QueryFault) → StandsIn t c (function g) → may_stand c (aggregate_of g) ≡ false → FunctionNotAllowed ≡ f → IsViolation fields t f
misplaced_stands fields t c g f at may_not same = subst (IsViolation fields t) same (c, function g, at, may_not)

-- A set function that may not stand in its clause, does not take its column, or has a FILTER with a
-- fault.
function_stands : (fields : List Field) (t : Query) (c : Clause) (g : SetFunction) (f : QueryFault) → (c ≢ clause.Where → FiltersStand fields t f) → StandsIn t c (function g) → function_fault fields c g ≡ Some f → IsViolation fields t f
function_stands fields t c (over_all a) f deeper at h =
    elim (chosen_cases (may_stand c a) (aggregate_fault fields a) FunctionNotAllowed f h) [
      | inl may ↦ aggregate_stands fields t c (over_all a) f at may.1
      | inr may_not ↦ misplaced_stands fields t c (over_all a) f at may_not.0 may_not.1
    ]
function_stands fields t c (over_filtered a p) f deeper at h =
    elim (chosen_cases (may_stand c a) (option_or (aggregate_fault fields a) (predicate_fault fields [] clause.Where p)) FunctionNotAllowed f h) [
      | inl may ↦ either (aggregate_fault fields a) (predicate_fault fields [] clause.Where p) f (IsViolation fields t f)
          (λ k. aggregate_stands fields t c (over_filtered a p) f at k)
          (λ _ k. deeper (not_where c a may.0) p (c, a, is_written t c a (function (over_filtered a p)) may.0 at) k)
          may.1
      | inr may_not ↦ misplaced_stands fields t c (over_filtered a p) f at may_not.0 may_not.1
    ]

-- ---- expressions

-- An expression with a fault, wherever it stands.
pub expression_stands : (fields : List Field) (t : Query) (c : Clause) (e : Expression) (f : QueryFault) → (c ≢ clause.Where → FiltersStand fields t f) → StandsIn t c e → expression_fault fields (grouping_places fields t) c e ≡ Some f → IsViolation fields t f
expression_stands fields t c (name n) f deeper at h = name_stands fields t c n f at h
expression_stands fields t c (grouping ns) f deeper at h = grouping_stands fields t c ns f at h
expression_stands fields t c (function g) f deeper at h = function_stands fields t c g f deeper at h
