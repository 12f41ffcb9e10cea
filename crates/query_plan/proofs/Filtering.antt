-- The conditions of the different filters of a query.
use Rattle.std.proofs.Common.{◌≡◌, ◌∙◌, ◌<◌, ◌&&◌, ℕ, zero, suc, Bool, true, Option, Some, None, List, [], ◌∷◌, get_or, length, map, Result, Ok, Err, OnOk, refl, sym, ap, arith}
use Rattle.std.specs.Prelude.{position, slice_get}
use Rattle.std.specs.List.{AllByRecursion, list_all}
use Rattle.std.specs.Option.{option_and_then, option_map}
use Rattle.std.proofs.lemmas.List.{length-map}
use Rattle.std.proofs.lemmas.List.Quantifiers.{position-Some}
use Rattle.std.proofs.lemmas.Option.{slice_get-get_or}
use Rattle.semantics.specs.declared.truth.Truth.{Truth}
use Rattle.semantics.specs.declared.truth.Truth.TheVariants.{True}
use Rattle.semantics.specs.Values.{Datum}
use Rattle.semantics.specs.Records.{Fits}
use Rattle.semantics.specs.Columns.{Field}
use Rattle.semantics.specs.Syntax.{Predicate, Query}
use Rattle.query_resolve.specs.declared.function.FilteredFunction.{FilteredFunction}
use Rattle.query_typecheck.specs.declared.scope.Clause.TheVariants as clause
use Rattle.query_typecheck.specs.Filters.{LeadBack}
use Rattle.semantics.specs.Names.{PlannedFunction}
use Rattle.query_resolve.specs.Functions.{filter_at, filters_of, indexed_function, indexed_functions}
use Rattle.semantics.specs.SetFunctions.{functions_of}
use Rattle.semantics.specs.Inside.Same.{same_predicate}
use Rattle.query_typecheck.specs.Typing.{IsTypedPredicate}
use Rattle.query_eval.specs.declared.condition.Condition.{Condition}
use Rattle.query_eval.specs.Binding.{AreConditionsOf}
use Rattle.semantics.specs.Conditions.{passes, record_value, where_truth, same_truth, truth}
use Rattle.query_eval.specs.Meaning.{condition_truth, is_safe}

-- One map after another.
map_twice : {X Y Z : Type 0} (g : Y → Z) (f : X → Y) (xs : List X) → map g (map f xs) ≡ map (λ x. g (f x)) xs
map_twice g f [] = refl
map_twice {X} {Y} {Z} g f (x ∷ xs) = ap (λ (zs : List Z). g (f x) ∷ zs) (map_twice g f xs)

-- Conditions of filters are worth what these are.
pub all_worth : (fields : List Field) (ps : List Predicate) (cs : List Condition) (values : List Datum) → AreConditionsOf fields ps cs → map (λ c. condition_truth c values) cs ≡ map (truth (record_value fields values)) ps
all_worth fields [] [] values h = refl
all_worth fields [] (c ∷ cs) values h = absurd h
all_worth fields (p ∷ ps) [] values h = absurd h
all_worth fields (p ∷ ps) (c ∷ cs) values h =
    ap (λ (t : Truth). t ∷ map (λ d. condition_truth d values) cs) (h.0.worth values)
    ∙ ap (λ (ts : List Truth). truth (record_value fields values) p ∷ ts) (all_worth fields ps cs values h.1)

-- Two tests that hold.
both_true : (a b : Bool) → a ≡ true → b ≡ true → (a && b) ≡ true
both_true a b g h = rw (g, h) refl

-- Conditions of typed filters can be evaluated for each record that fits.
pub all_safe : (fields : List Field) (ps : List Predicate) (cs : List Condition) (values : List Datum) → AreConditionsOf fields ps cs → AllByRecursion (IsTypedPredicate fields [] clause.Where) ps → Fits fields values → list_all (λ safe. safe values) (map is_safe cs) ≡ true
all_safe fields [] [] values h typed fits = refl
all_safe fields [] (c ∷ cs) values h typed fits = absurd h
all_safe fields (p ∷ ps) [] values h typed fits = absurd h
all_safe fields (p ∷ ps) (c ∷ cs) values h typed fits =
    both_true (is_safe c values) (list_all (λ safe. safe values) (map is_safe cs)) (h.0.safe [] typed.0 values fits) (all_safe fields ps cs values h.1 typed.1 fits)

-- Marks by conditions are marks by filters.
pub marks_are : (fields : List Field) (values : List Datum) (ps : List Predicate) (cs : List Condition) → map (λ c. condition_truth c values) cs ≡ map (truth (record_value fields values)) ps → map (λ c. same_truth (condition_truth c values) True) cs ≡ map (λ p. passes fields p values) ps
marks_are fields values ps cs h =
    sym (map_twice (λ t. same_truth t True) (λ (c : Condition). condition_truth c values) cs)
    ∙ ap (map (λ t. same_truth t True)) h
    ∙ map_twice (λ t. same_truth t True) (truth (record_value fields values)) ps

-- The index of a filter that was found is below their number.
index_within : (filters : List Predicate) (o : Option Predicate) (i : ℕ) → option_and_then (λ p. position (same_predicate p) filters) o ≡ Some i → i < length filters
index_within filters None i h = absurd cc
index_within filters (Some p) i h = (position-Some (same_predicate p) filters i p h).0

-- What stands at a place of a mapped list.
at_map : {A B : Type 0} (f : A → B) (xs : List A) (i : ℕ) → slice_get (map f xs) i ≡ option_map f (slice_get xs i)
at_map f [] i = refl
at_map f (x ∷ xs) zero = refl
at_map f (x ∷ xs) (suc i) = at_map f xs i

-- What stands at a place within a mapped list.
pub mapped_at : {A B : Type 0} (f : A → B) (xs : List A) (i : ℕ) (x : A) → i < length xs → x ≡ get_or xs i x → slice_get (map f xs) i ≡ Some (f x)
mapped_at f xs i x within is = at_map f xs i ∙ ap (option_map f) (slice_get-get_or xs i x within ∙ ap Some (sym is))

-- What a test of options comes to, behind a map.
then_map : {A B C : Type 0} (g : B → Option C) (f : A → B) (o : Option A) → option_and_then g (option_map f o) ≡ option_and_then (λ x. g (f x)) o
then_map g f None = refl
then_map g f (Some x) = refl

-- What is read at a place within a list.
there : {A : Type 0} (xs : List A) (i : ℕ) → i < length xs → (x : A) × (slice_get xs i ≡ Some x)
there [] i below = absurd (omega (arith, below))
there (x ∷ xs) zero below = (x, refl)
there (x ∷ xs) (suc i) below = there xs i (omega (arith, below))

-- The filter of the set function at a place, by the index that it has there.
pub filter_read : (fields : List Field) (t : Query) (place : ℕ) (x : FilteredFunction) → slice_get (indexed_functions fields t) place ≡ Some x → LeadBack fields t → option_and_then (slice_get (filters_of fields t)) x.filter ≡ filter_at fields t place
filter_read fields t place x here back =
    let filters = filters_of fields t in
    let fs = functions_of fields t in
    let h : FilteredFunction → Option Predicate = λ f. option_and_then (slice_get filters) f.filter in
    let left : slice_get (map h (indexed_functions fields t)) place ≡ Some (h x) = at_map h (indexed_functions fields t) place ∙ ap (option_map h) here in
    let right : slice_get (map (λ (f : PlannedFunction). f.filter) fs) place ≡ option_map (λ (f : PlannedFunction). f.filter) (slice_get fs place) = at_map (λ (f : PlannedFunction). f.filter) fs place in
    ap (λ (o : Option (Option Predicate)). option_and_then (λ q. q) o) (sym left ∙ ap (λ os. slice_get os place) back ∙ right)
    ∙ then_map (λ (q : Option Predicate). q) (λ (f : PlannedFunction). f.filter) (slice_get fs place)

-- The set function at a place has an index that is below the number of filters.
pub index_below : (fields : List Field) (t : Query) (place index : ℕ) (x : FilteredFunction) → place < length (functions_of fields t) → slice_get (indexed_functions fields t) place ≡ Some x → x.filter ≡ Some index → index < length (filters_of fields t)
index_below fields t place index x below here has =
    let fs = functions_of fields t in
    let g = there fs place below in
    let made : Some x ≡ Some (indexed_function (filters_of fields t) g.0) = sym here ∙ at_map (indexed_function (filters_of fields t)) fs place ∙ ap (option_map (indexed_function (filters_of fields t))) g.1 in
    let same : x ≡ indexed_function (filters_of fields t) g.0 = cc in
    index_within (filters_of fields t) g.0.filter index (ap (λ (f : FilteredFunction). f.filter) (sym same) ∙ has)

-- What a filter is worth that is read from a list.
pub worth_read : (fields : List Field) (values : List Datum) (ps : List Predicate) (index : ℕ) (o : Option Predicate) (t : Truth) → slice_get ps index ≡ o → Some t ≡ slice_get (map (truth (record_value fields values)) ps) index → t ≡ where_truth fields o values
worth_read fields values ps index o t here worth =
    some_worth fields values o t (worth ∙ at_map (truth (record_value fields values)) ps index ∙ ap (option_map (truth (record_value fields values))) here)
  where
    some_worth : (fields : List Field) (values : List Datum) (o : Option Predicate) (t : Truth) → Some t ≡ option_map (truth (record_value fields values)) o → t ≡ where_truth fields o values
    some_worth fields values None t h = absurd cc
    some_worth fields values (Some p) t h = cc

-- A place of a set function is below their number, with indexes too.
pub place_within : (fields : List Field) (t : Query) (place : ℕ) (xs : List FilteredFunction) → xs ≡ indexed_functions fields t → place < length (functions_of fields t) → place < length xs
place_within fields t place xs same below =
    let n = length-map (functions_of fields t) (indexed_function (filters_of fields t)) in
    let m = ap length same in
    omega (arith, n, m, below)

-- The set function at a place is there.
pub read_at : (fields : List Field) (t : Query) (place : ℕ) (xs : List FilteredFunction) (d : FilteredFunction) → xs ≡ indexed_functions fields t → place < length (functions_of fields t) → slice_get (indexed_functions fields t) place ≡ Some (get_or xs place d)
read_at fields t place xs d same below =
    ap (λ (ys : List FilteredFunction). slice_get ys place) (sym same) ∙ slice_get-get_or xs place d (place_within fields t place xs same below)

-- Without an index there is no filter, and all records pass.
pub no_filter : (fields : List Field) (t : Query) (place : ℕ) (x : FilteredFunction) (values : List Datum) → slice_get (indexed_functions fields t) place ≡ Some x → LeadBack fields t → x.filter ≡ None → True ≡ where_truth fields (filter_at fields t place) values
no_filter fields t place x values here back has =
    ap (λ (o : Option Predicate). where_truth fields o values) (ap (option_and_then (slice_get (filters_of fields t))) (sym has) ∙ filter_read fields t place x here back)

-- As many conditions as filters.
pub as_many : (fields : List Field) (ps : List Predicate) (cs : List Condition) → map (λ c. condition_truth c []) cs ≡ map (truth (record_value fields [])) ps → length ps ≡ length cs
as_many fields ps cs h =
    let n = length-map cs (λ (c : Condition). condition_truth c []) in
    let m = length-map ps (truth (record_value fields [])) in
    let e = ap length h in
    omega (arith, n, m, e)

-- What is left where a call succeeds, by an equation more.
pub on_ok_more : {T E A : Type 0} (r : Result T E) (a b c : A) → OnOk r (a ≡ b) → b ≡ c → OnOk r (a ≡ c)
on_ok_more (Ok v) a b c h e = h ∙ e
on_ok_more (Err x) a b c h e = tt
