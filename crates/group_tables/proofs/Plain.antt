-- What is kept of a group, and the plain states that it is.
use Rattle.std.proofs.Common.{◌≡◌, ◌⊎◌, inl, inr, ◌++◌, append-nil, append_assoc, ◌≤◌, ℕ, ℤ, Bool, List, [], ◌∷◌, map, filter, length, Option, Some, None, refl, sym, ap, ◌∙◌, arith}
use Rattle.std.proofs.lemmas.Int.{ints}
use Rattle.std.proofs.lemmas.List.{map-append}
use Rattle.std.specs.FinSet as set
use Rattle.std.specs.List.{AllByRecursion, list_any}
use Rattle.std.specs.List.Sorted.{IsStrictlySortedBy}
use Rattle.semantics.specs.Aggregates.{AggregateFunction, column_values, same_value}
use Rattle.semantics.specs.Columns.{Field}
use Rattle.semantics.specs.Groups.{Record}
use Rattle.semantics.specs.Lists.{distinct}
use Rattle.semantics.specs.Values.{Datum, value_order}
use Rattle.semantics.specs.declared.function.ColumnFunction.{ColumnFunction}
use Rattle.semantics.specs.declared.function.ColumnFunction.TheVariants as function
use Rattle.query_resolve.specs.declared.function.FilteredFunction.{FilteredFunction}
use Rattle.semantics.specs.GroupStates.{different_values, function_state, FunctionState}
use Rattle.values.specs.GroupStates.{state_of, states_of}
use Rattle.values.specs.declared.group_entry.State.{State}
use Rattle.semantics.specs.GroupStates as state
use Rattle.group_tables.specs.declared.accumulator.Accumulator.{Accumulator}
use Rattle.group_tables.specs.Functions.{aggregate_of, aggregates_of}
use Rattle.group_tables.specs.Accumulator.{AccumulatorState, nothing, counted, summed, averaged, collected, lowest, highest, IsSumOf, accumulator_state, state_by}
use Rattle.group_tables.specs.Inside.Accumulator.{IsWithin, state_in}
use Rattle.group_tables.specs.Entries.{AreStatesFor, HasFormBy, IsAscending, IsStateFor, ascending_values, plain_state}
use Rattle.group_tables.specs.Inside.Entries.{kept_state, kept_states}
use Rattle.group_tables.specs.Typed.{AreStatesOf}
use Rattle.group_tables.specs.Typed as typed
use Rattle.group_tables.specs.Values.{Values, set_of}
use Rattle.group_tables.proofs.Ascending.{any-in_order, ascending-sorted, in_order-sorted, one-sorted}
use Rattle.group_tables.proofs.Order.{value_antisymmetric, value_total}
use Rattle.group_tables.proofs.Repeats.{any-distinct, distinct-is}

-- ---- sets of values, and their values

different-any : (q : Datum) (ds : List Datum) → list_any (same_value q) (different_values ds) ≡ list_any (same_value q) ds
different-any q ds = any-in_order value_order (same_value q) (distinct same_value ds) ∙ any-distinct value_total q ds

different-sorted : (ds : List Datum) → IsStrictlySortedBy value_order (different_values ds)
different-sorted ds = in_order-sorted value_total (distinct same_value ds) (distinct-is same_value ds)

in_set : (ds : List Datum) (q : Datum) → list_any (same_value q) ds ≡ set.contains (set_of ds) q
in_set ds q = sym (set.contains-from_list value_total ds q)

ascending-any : (values : Values) (q : Datum) → list_any (same_value q) (ascending_values values) ≡ set.contains values q
ascending-any values q = different-any q (set.items values) ∙ sym (set.contains-items values q)

-- the ascending list of a set's values is the set's
pub ascending-list : (ds : List Datum) → IsStrictlySortedBy value_order ds → ascending_values (set_of ds) ≡ ds
ascending-list ds s = one-sorted value_total value_antisymmetric (ascending_values (set_of ds)) ds (different-sorted (set.items (set_of ds))) s
    (λ q. ascending-any (set_of ds) q ∙ sym (in_set ds q))

-- so is that of a list's different values
ascending-different : (ds : List Datum) → ascending_values (set_of ds) ≡ different_values ds
ascending-different ds = one-sorted value_total value_antisymmetric (ascending_values (set_of ds)) (different_values ds) (different-sorted (set.items (set_of ds))) (different-sorted ds)
    (λ q. ascending-any (set_of ds) q ∙ sym (in_set ds q) ∙ sym (different-any q ds))

-- and the set is that of its values
set-back : (values : Values) → set_of (ascending_values values) ≡ values
set-back values = set.same_set value_total value_antisymmetric (set_of (ascending_values values)) values (λ q. sym (in_set (ascending_values values) q) ∙ ascending-any values q)

-- ---- the states of set functions over records

plain-by : (t : Option (Record → Bool)) (f : ColumnFunction) (rows : List Record) → plain_state (state_by t f rows) ≡ state.state_by t f rows
plain-by None function.CountRows rows = refl
plain-by None (function.Count place) rows = refl
plain-by None (function.CountDistinct place) rows = ap state.collected (ascending-different (column_values place rows))
plain-by None (function.Sum place) rows = refl
plain-by None (function.Min place) rows = refl
plain-by None (function.Max place) rows = refl
plain-by None (function.Avg place) rows = refl
plain-by (Some keeps) function.CountRows rows = refl
plain-by (Some keeps) (function.Count place) rows = refl
plain-by (Some keeps) (function.CountDistinct place) rows = ap state.collected (ascending-different (column_values place (filter keeps rows)))
plain-by (Some keeps) (function.Sum place) rows = refl
plain-by (Some keeps) (function.Min place) rows = refl
plain-by (Some keeps) (function.Max place) rows = refl
plain-by (Some keeps) (function.Avg place) rows = refl

pub plain-states : (fs : List AggregateFunction) (rows : List Record) → map plain_state (map (λ f. accumulator_state f rows) fs) ≡ map (λ f. function_state f rows) fs
plain-states [] rows = refl
plain-states (f ∷ fs) rows = λ i. plain-by f.filter f.function rows i ∷ plain-states fs rows i

-- ---- what is kept is told by its plain state

-- of the records
kept-by : (t : Option (Record → Bool)) (f : ColumnFunction) (rows : List Record) → kept_state f (plain_state (state_by t f rows)) ≡ state_by t f rows
kept-by None function.CountRows rows = refl
kept-by None (function.Count place) rows = refl
kept-by None (function.CountDistinct place) rows = ap collected (set-back (set_of (column_values place rows)))
kept-by None (function.Sum place) rows = refl
kept-by None (function.Min place) rows = refl
kept-by None (function.Max place) rows = refl
kept-by None (function.Avg place) rows = refl
kept-by (Some keeps) function.CountRows rows = refl
kept-by (Some keeps) (function.Count place) rows = refl
kept-by (Some keeps) (function.CountDistinct place) rows = ap collected (set-back (set_of (column_values place (filter keeps rows))))
kept-by (Some keeps) (function.Sum place) rows = refl
kept-by (Some keeps) (function.Min place) rows = refl
kept-by (Some keeps) (function.Max place) rows = refl
kept-by (Some keeps) (function.Avg place) rows = refl

-- of a state of the function's type
kept-typed : (fields : List Field) (t : Option ℕ) (f : ColumnFunction) (k : AccumulatorState) → typed.IsStateBy fields t f k → kept_state f (plain_state k) ≡ k
kept-typed fields t f nothing h = refl
kept-typed fields t f (counted n) h = refl
kept-typed fields t f (collected values) h = ap collected (set-back values)
kept-typed fields t function.CountRows (summed s n) h = refl
kept-typed fields t (function.Count place) (summed s n) h = refl
kept-typed fields t (function.CountDistinct place) (summed s n) h = refl
kept-typed fields t (function.Sum place) (summed s n) h = refl
kept-typed fields t (function.Min place) (summed s n) h = refl
kept-typed fields t (function.Max place) (summed s n) h = refl
kept-typed fields None (function.Avg place) (summed s n) h = elim h [ ]
kept-typed fields (Some i) (function.Avg place) (summed s n) h = elim h [ ]
kept-typed fields t (function.Avg place) (averaged s n) h = refl
kept-typed fields None function.CountRows (averaged s n) h = elim h [ ]
kept-typed fields None (function.Count place) (averaged s n) h = elim h [ ]
kept-typed fields None (function.CountDistinct place) (averaged s n) h = elim h [ ]
kept-typed fields None (function.Sum place) (averaged s n) h = elim h [ ]
kept-typed fields None (function.Min place) (averaged s n) h = elim h [ ]
kept-typed fields None (function.Max place) (averaged s n) h = elim h [ ]
kept-typed fields (Some i) function.CountRows (averaged s n) h = elim h [ ]
kept-typed fields (Some i) (function.Count place) (averaged s n) h = elim h [ ]
kept-typed fields (Some i) (function.CountDistinct place) (averaged s n) h = elim h [ ]
kept-typed fields (Some i) (function.Sum place) (averaged s n) h = elim h [ ]
kept-typed fields (Some i) (function.Min place) (averaged s n) h = elim h [ ]
kept-typed fields (Some i) (function.Max place) (averaged s n) h = elim h [ ]
kept-typed fields t function.CountRows (lowest d) h = refl
kept-typed fields t (function.Count place) (lowest d) h = refl
kept-typed fields t (function.CountDistinct place) (lowest d) h = refl
kept-typed fields t (function.Sum place) (lowest d) h = refl
kept-typed fields t (function.Min place) (lowest d) h = refl
kept-typed fields None (function.Max place) (lowest d) h = elim h [ ]
kept-typed fields (Some i) (function.Max place) (lowest d) h = elim h [ ]
kept-typed fields t (function.Avg place) (lowest d) h = refl
kept-typed fields t (function.Max place) (highest d) h = refl
kept-typed fields None function.CountRows (highest d) h = elim h [ ]
kept-typed fields None (function.Count place) (highest d) h = elim h [ ]
kept-typed fields None (function.CountDistinct place) (highest d) h = elim h [ ]
kept-typed fields None (function.Sum place) (highest d) h = elim h [ ]
kept-typed fields None (function.Min place) (highest d) h = elim h [ ]
kept-typed fields None (function.Avg place) (highest d) h = elim h [ ]
kept-typed fields (Some i) function.CountRows (highest d) h = elim h [ ]
kept-typed fields (Some i) (function.Count place) (highest d) h = elim h [ ]
kept-typed fields (Some i) (function.CountDistinct place) (highest d) h = elim h [ ]
kept-typed fields (Some i) (function.Sum place) (highest d) h = elim h [ ]
kept-typed fields (Some i) (function.Min place) (highest d) h = elim h [ ]
kept-typed fields (Some i) (function.Avg place) (highest d) h = elim h [ ]

-- states of the functions' types, of which the plain ones are those over some records, are what is
-- kept of these
pub states-told : (fields : List Field) (functions : List FilteredFunction) (filters : List (Record → Bool)) (rows : List Record) (parts : List AccumulatorState)
    → AreStatesOf fields functions parts → map plain_state parts ≡ map (λ f. function_state f rows) (aggregates_of filters functions)
    → parts ≡ map (λ f. accumulator_state f rows) (aggregates_of filters functions)
states-told fields [] filters rows [] h e = refl
states-told fields [] filters rows (k ∷ ks) h e = elim h [ ]
states-told fields (f ∷ fs) filters rows [] h e = elim h [ ]
states-told fields (f ∷ fs) filters rows (k ∷ ks) h e =
    let a = aggregate_of filters f in
    let first : plain_state k ≡ function_state a rows = cc in
    let rest : map plain_state ks ≡ map (λ f. function_state f rows) (aggregates_of filters fs) = cc in
    let here = sym (kept-typed fields f.filter f.function k h.0) ∙ ap (kept_state f.function) (first ∙ sym (plain-by a.filter a.function rows)) ∙ kept-by a.filter a.function rows in
    λ i. here i ∷ states-told fields fs filters rows ks h.1 rest i

-- ---- what is kept of plain states

-- of the forms that set functions keep
form-count : (t : Option ℕ) (f : ColumnFunction) (members : ℕ) (n : ℕ) → HasFormBy t f members (state.counted n) → n ≤ members
form-count None function.CountRows members n h = elim h [ ]
form-count None (function.Count place) members n h = h
form-count None (function.CountDistinct place) members n h = elim h [ ]
form-count None (function.Sum place) members n h = elim h [ ]
form-count None (function.Min place) members n h = elim h [ ]
form-count None (function.Max place) members n h = elim h [ ]
form-count None (function.Avg place) members n h = elim h [ ]
form-count (Some i) function.CountRows members n h = h
form-count (Some i) (function.Count place) members n h = h
form-count (Some i) (function.CountDistinct place) members n h = elim h [ ]
form-count (Some i) (function.Sum place) members n h = elim h [ ]
form-count (Some i) (function.Min place) members n h = elim h [ ]
form-count (Some i) (function.Max place) members n h = elim h [ ]
form-count (Some i) (function.Avg place) members n h = elim h [ ]

form-sum : (t : Option ℕ) (f : ColumnFunction) (members : ℕ) (s : ℤ) (n : ℕ) → HasFormBy t f members (state.summed s n) → (n ≤ members) × IsSumOf n s
form-sum None function.CountRows members s n h = elim h [ ]
form-sum None (function.Count place) members s n h = elim h [ ]
form-sum None (function.CountDistinct place) members s n h = elim h [ ]
form-sum None (function.Sum place) members s n h = h
form-sum None (function.Min place) members s n h = elim h [ ]
form-sum None (function.Max place) members s n h = elim h [ ]
form-sum None (function.Avg place) members s n h = h
form-sum (Some i) function.CountRows members s n h = elim h [ ]
form-sum (Some i) (function.Count place) members s n h = elim h [ ]
form-sum (Some i) (function.CountDistinct place) members s n h = elim h [ ]
form-sum (Some i) (function.Sum place) members s n h = h
form-sum (Some i) (function.Min place) members s n h = elim h [ ]
form-sum (Some i) (function.Max place) members s n h = elim h [ ]
form-sum (Some i) (function.Avg place) members s n h = h

form-distinct : (t : Option ℕ) (f : ColumnFunction) (members : ℕ) (ds : List Datum) → HasFormBy t f members (state.collected ds) → IsAscending value_order ds
form-distinct None function.CountRows members ds h = elim h [ ]
form-distinct None (function.Count place) members ds h = elim h [ ]
form-distinct None (function.CountDistinct place) members ds h = h
form-distinct None (function.Sum place) members ds h = elim h [ ]
form-distinct None (function.Min place) members ds h = elim h [ ]
form-distinct None (function.Max place) members ds h = elim h [ ]
form-distinct None (function.Avg place) members ds h = elim h [ ]
form-distinct (Some i) function.CountRows members ds h = elim h [ ]
form-distinct (Some i) (function.Count place) members ds h = elim h [ ]
form-distinct (Some i) (function.CountDistinct place) members ds h = h
form-distinct (Some i) (function.Sum place) members ds h = elim h [ ]
form-distinct (Some i) (function.Min place) members ds h = elim h [ ]
form-distinct (Some i) (function.Max place) members ds h = elim h [ ]
form-distinct (Some i) (function.Avg place) members ds h = elim h [ ]

plain-sum : (f : ColumnFunction) (s : ℤ) (n : ℕ) → plain_state (kept_state f (state.summed s n)) ≡ state.summed s n
plain-sum function.CountRows s n = refl
plain-sum (function.Count place) s n = refl
plain-sum (function.CountDistinct place) s n = refl
plain-sum (function.Sum place) s n = refl
plain-sum (function.Min place) s n = refl
plain-sum (function.Max place) s n = refl
plain-sum (function.Avg place) s n = refl

plain-extreme : (f : ColumnFunction) (d : Datum) → plain_state (kept_state f (state.extreme d)) ≡ state.extreme d
plain-extreme function.CountRows d = refl
plain-extreme (function.Count place) d = refl
plain-extreme (function.CountDistinct place) d = refl
plain-extreme (function.Sum place) d = refl
plain-extreme (function.Min place) d = refl
plain-extreme (function.Max place) d = refl
plain-extreme (function.Avg place) d = refl

plain-kept : (f : FilteredFunction) (members : ℕ) (s : FunctionState) → IsStateFor f members s → plain_state (kept_state f.function s) ≡ s
plain-kept f members state.rows h = refl
plain-kept f members (state.counted n) h = refl
plain-kept f members (state.summed s n) h = plain-sum f.function s n
plain-kept f members (state.extreme d) h = plain-extreme f.function d
plain-kept f members (state.collected ds) h = ap state.collected (ascending-list ds (ascending-sorted value_total ds (form-distinct f.filter f.function members ds h)))

-- what is kept of plain states are these
pub plain-kept_states : (functions : List FilteredFunction) (members : ℕ) (states : List FunctionState) → AreStatesFor functions members states
    → map plain_state (kept_states functions states) ≡ states
plain-kept_states [] members [] h = refl
plain-kept_states [] members (s ∷ ss) h = elim h [ ]
plain-kept_states (f ∷ fs) members [] h = elim h [ ]
plain-kept_states (f ∷ fs) members (s ∷ ss) h = λ i. plain-kept f members s h.0 i ∷ plain-kept_states fs members ss h.1 i

-- a sum of fewer numbers is one of more
sum-more : (n members : ℕ) (s : ℤ) → n ≤ members → IsSumOf n s → IsSumOf members s
sum-more n members s few h = (omega (arith, ints, few, h.0), omega (arith, ints, few, h.1))

within-sum : (f : ColumnFunction) (members : ℕ) (s : ℤ) (n : ℕ) → n ≤ members → IsSumOf members s → IsWithin members (kept_state f (state.summed s n))
within-sum function.CountRows members s n few h = (few, h)
within-sum (function.Count place) members s n few h = (few, h)
within-sum (function.CountDistinct place) members s n few h = (few, h)
within-sum (function.Sum place) members s n few h = (few, h)
within-sum (function.Min place) members s n few h = (few, h)
within-sum (function.Max place) members s n few h = (few, h)
within-sum (function.Avg place) members s n few h = (few, h)

within-extreme : (f : ColumnFunction) (members : ℕ) (d : Datum) → IsWithin members (kept_state f (state.extreme d))
within-extreme function.CountRows members d = tt
within-extreme (function.Count place) members d = tt
within-extreme (function.CountDistinct place) members d = tt
within-extreme (function.Sum place) members d = tt
within-extreme (function.Min place) members d = tt
within-extreme (function.Max place) members d = tt
within-extreme (function.Avg place) members d = tt

within-kept : (f : FilteredFunction) (members : ℕ) (s : FunctionState) → IsStateFor f members s → IsWithin members (kept_state f.function s)
within-kept f members state.rows h = tt
within-kept f members (state.counted n) h = form-count f.filter f.function members n h
within-kept f members (state.summed s n) h =
    let sum = form-sum f.filter f.function members s n h in
    within-sum f.function members s n sum.0 (sum-more n members s sum.0 sum.1)
within-kept f members (state.extreme d) h = within-extreme f.function members d
within-kept f members (state.collected ds) h = tt

-- and it is of at most so many members
pub within-kept_states : (functions : List FilteredFunction) (members : ℕ) (states : List FunctionState) → AreStatesFor functions members states
    → AllByRecursion (IsWithin members) (kept_states functions states)
within-kept_states [] members ss h = tt
within-kept_states (f ∷ fs) members [] h = tt
within-kept_states (f ∷ fs) members (s ∷ ss) h = (within-kept f members s h.0, within-kept_states fs members ss h.1)

-- ---- the loop over functions and states

-- one accumulator more, and the states that are left
pub kept-more : (done : List Accumulator) (a : Accumulator) (f : FilteredFunction) (s : State) (fs : List FilteredFunction) (ss : List State) → state_in a ≡ kept_state f.function (state_of s)
    → map state_in (done ++ a ∷ []) ++ kept_states fs (states_of ss) ≡ map state_in done ++ kept_states (f ∷ fs) (states_of (s ∷ ss))
kept-more done a f s fs ss h =
    let rest = kept_states fs (states_of ss) in
    ap (λ (ks : List AccumulatorState). ks ++ rest) (map-append state_in done (a ∷ []))
    ∙ append_assoc (map state_in done) (state_in a ∷ []) rest
    ∙ ap (λ (k : AccumulatorState). map state_in done ++ k ∷ rest) h

none-kept : (fs : List FilteredFunction) (ss : List State) → (length fs ≡ 0) ⊎ (length ss ≡ 0) → kept_states fs (states_of ss) ≡ []
none-kept [] ss e = refl
none-kept (f ∷ fs) [] e = refl
none-kept (f ∷ fs) (s ∷ ss) (inl e) = absurd (omega (arith, e))
none-kept (f ∷ fs) (s ∷ ss) (inr e) = absurd (omega (arith, e))

-- where no function or no state is left, all is done
pub kept-end : (done : List Accumulator) (fs : List FilteredFunction) (ss : List State) (all : List AccumulatorState) → (length fs ≡ 0) ⊎ (length ss ≡ 0)
    → map state_in done ++ kept_states fs (states_of ss) ≡ all → map state_in done ≡ all
kept-end done fs ss all e h = sym (append-nil (map state_in done)) ∙ ap (λ (ks : List AccumulatorState). map state_in done ++ ks) (sym (none-kept fs ss e)) ∙ h
