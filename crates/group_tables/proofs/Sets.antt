-- Sets of values.
use Rattle.std.proofs.Common.{◌≡◌, ◌+◌, Bool, true, false, cond, not, ◌||◌, List, [], ◌∷◌, ◌++◌, length, refl, sym, ap, ◌∙◌, arith}
use Rattle.std.specs.Bool.{MatchBool}
use Rattle.std.specs.List.{AllByRecursion, IsDistinct, list_any}
use Rattle.std.specs.List.Sorted.{IsPermutation}
use Rattle.std.proofs.lemmas.List.{length-map}
use Rattle.std.proofs.lemmas.List.Folds.{list_any-append}
use Rattle.std.proofs.lemmas.List.Sorted.{list_any-IsPermutation, IsPermutation-map}
use Rattle.std.specs.FinSet as set
use Rattle.semantics.specs.Values.{Datum, whole, text, boolean, null, value_order}
use Rattle.values.specs.Datum.{data_of, datum_of}
use Rattle.values.specs.declared.value.Value.{Value}
use Rattle.semantics.specs.Lists.{distinct}
use Rattle.semantics.specs.Aggregates.{is_non_null, non_null, same_value}
use Rattle.group_tables.specs.Values.{Values, set_of}
use Rattle.group_tables.specs.Inside.Values.{values_in}
use Rattle.group_tables.proofs.Order.{value_total, value_antisymmetric, value_eq, value_eq-ties}
use Rattle.group_tables.proofs.Repeats.{alike, any-distinct, distinct-is}

or-false : (b : Bool) → (b || false) ≡ b
or-false true = refl
or-false false = refl

or-flip : (a b : Bool) → (a || b) ≡ (b || a)
or-flip true true = refl
or-flip true false = refl
or-flip false true = refl
or-flip false false = refl

three : (e a b : Bool) → ((e || a) || b) ≡ (a || (e || b))
three true true b = refl
three true false b = refl
three false a b = refl

same : (s t : Values) → ((q : Datum) → set.contains s q ≡ set.contains t q) → s ≡ t
same s t h = set.same_set value_total value_antisymmetric s t h

in_list : (ds : List Datum) (q : Datum) → set.contains (set_of ds) q ≡ list_any (same_value q) ds
in_list ds q = set.contains-from_list value_total ds q

pub union-empty : (s : Values) → set.union s (set_of []) ≡ s
union-empty s = same _ _ (λ q. set.contains-union value_total s (set_of []) q
    ∙ ap (λ b. set.contains s q || b) (set.contains-empty value_order q) ∙ or-false (set.contains s q))

pub union-flip : (s t : Values) → set.union s t ≡ set.union t s
union-flip s t = same _ _ (λ q. set.contains-union value_total s t q ∙ or-flip (set.contains s q) (set.contains t q) ∙ sym (set.contains-union value_total t s q))

pub union-append : (xs ys : List Datum) → set_of (xs ++ ys) ≡ set.union (set_of xs) (set_of ys)
union-append xs ys = same _ _ (λ q. in_list (xs ++ ys) q ∙ list_any-append (same_value q) xs ys
    ∙ (λ i. sym (in_list xs q) i || sym (in_list ys q) i) ∙ sym (set.contains-union value_total (set_of xs) (set_of ys) q))

distinct_alike : (xs : List Datum) → set_of (distinct same_value xs) ≡ set_of xs
distinct_alike xs = same _ _ (λ q. in_list (distinct same_value xs) q ∙ any-distinct value_total q xs ∙ sym (in_list xs q))

none-of : (d : Datum) (ds : List Datum) → AllByRecursion (λ y. same_value d y ≡ false) ds → list_any (same_value d) ds ≡ false
none-of d [] h = refl
none-of d (x ∷ ds) h = λ i. h.0 i || none-of d ds h.1 i

len-all : (ds : List Datum) → IsDistinct same_value ds → set.len (set_of ds) ≡ length ds
unfolding IsDistinct
len-all [] d = set.len-empty value_order
len-all (x ∷ ds) d =
    set.len-insert value_total (set_of ds) x
    ∙ ap (λ b. cond b (set.len (set_of ds)) (set.len (set_of ds) + 1)) (in_list ds x ∙ none-of x ds d.0)
    ∙ (let h = len-all ds d.1 in omega (arith, h))

-- the number of the values of a list without repeats
pub len-distinct : (xs : List Datum) → set.len (set_of xs) ≡ length (distinct same_value xs)
len-distinct xs = ap set.len (sym (distinct_alike xs)) ∙ len-all (distinct same_value xs) (distinct-is same_value xs)

-- ---- sets in the code

found-data : (k : Value) (vs : List Value) → list_any (value_eq k) vs ≡ list_any (same_value (datum_of k)) (data_of vs)
found-data k [] = refl
found-data k (w ∷ vs) = λ i. value_eq-ties k w i || found-data k vs i

negated : (b : Bool) → false ≡ not b → b ≡ true
negated true e = refl
negated false e = cc

-- what stands in the list already adds nothing
there_already : (q k : Datum) (ds : List Datum) → list_any (same_value k) ds ≡ true → list_any (same_value q) ds ≡ (same_value q k || list_any (same_value q) ds)
there_already q k ds there =
    elim (same_value q k) as (λ b. same_value q k ≡ b → list_any (same_value q) ds ≡ (b || list_any (same_value q) ds)) [
      | true ↦ λ e. alike value_total q k e ds ∙ there
      | false ↦ λ e. refl
    ] refl

insert-there : (ds : List Datum) (d : Datum) → list_any (same_value d) ds ≡ true → set_of ds ≡ set.insert (set_of ds) d
insert-there ds d there = same _ _ (λ q. in_list ds q ∙ there_already q d ds there
    ∙ ap (λ b. same_value q d || b) (sym (in_list ds q)) ∙ sym (set.contains-insert value_total (set_of ds) d q))

-- a set of the code that has a value already
pub shown-there : (keys : List Value) (k : Value) → list_any (value_eq k) keys ≡ true → values_in keys ≡ set.insert (values_in keys) (datum_of k)
shown-there keys k h = insert-there (data_of keys) (datum_of k) (sym (found-data k keys) ∙ h)

-- a set of the code after one more value
pub shown-insert : (old new : List Value) (k : Value) (added : Bool) → added ≡ not (list_any (value_eq k) old)
    → MatchBool added (IsPermutation (k ∷ old) new) (new ≡ old)
    → values_in new ≡ set.insert (values_in old) (datum_of k)
shown-insert old new k true e h = same _ _ (λ q.
    in_list (data_of new) q
    ∙ sym (list_any-IsPermutation (same_value q) (data_of (k ∷ old)) (data_of new) (IsPermutation-map datum_of (k ∷ old) new h))
    ∙ ap (λ b. same_value q (datum_of k) || b) (sym (in_list (data_of old) q))
    ∙ sym (set.contains-insert value_total (values_in old) (datum_of k) q))
shown-insert old new k false e h = ap values_in h ∙ shown-there old k (negated (list_any (value_eq k) old) e)

pub union-one : (s : Values) (d : Datum) → set.union s (set_of (d ∷ [])) ≡ set.insert s d
union-one s d = same _ _ (λ q. set.contains-union value_total s (set_of (d ∷ [])) q
    ∙ ap (λ b. set.contains s q || b) (in_list (d ∷ []) q ∙ or-false (same_value q d))
    ∙ or-flip (set.contains s q) (same_value q d) ∙ sym (set.contains-insert value_total s d q))

-- with one more value that is not NULL
pub union-present : (s : Values) (d : Datum) → is_non_null d ≡ true → set.union s (set_of (non_null (d ∷ []))) ≡ set.insert s d
union-present s (boolean b) h = union-one s (boolean b)
union-present s (whole n) h = union-one s (whole n)
union-present s (text t) h = union-one s (text t)
union-present s null h = cc

-- where NULL is taken the set stays
pub union-absent : (s : Values) (d : Datum) → is_non_null d ≡ false → set.union s (set_of (non_null (d ∷ []))) ≡ s
union-absent s (boolean b) h = cc
union-absent s (whole n) h = cc
union-absent s (text t) h = cc
union-absent s null h = union-empty s

-- moving the first value of a list into a set
pub moved : (s : Values) (d : Datum) (ds : List Datum) → set.union (set.insert s d) (set_of ds) ≡ set.union s (set_of (d ∷ ds))
moved s d ds = same _ _ (λ q.
    let e = same_value q d in
    let a = set.contains s q in
    let b = set.contains (set_of ds) q in
    set.contains-union value_total (set.insert s d) (set_of ds) q
    ∙ ap (λ x. x || b) (set.contains-insert value_total s d q)
    ∙ three e a b
    ∙ ap (λ x. a || x) (sym (set.contains-insert value_total (set_of ds) d q))
    ∙ sym (set.contains-union value_total s (set_of (d ∷ ds)) q))

others-data : (w : Value) (vs : List Value) → AllByRecursion (λ y. value_eq w y ≡ false) vs → AllByRecursion (λ y. same_value (datum_of w) y ≡ false) (data_of vs)
others-data w [] h = tt
others-data w (x ∷ vs) h = (sym (value_eq-ties w x) ∙ h.0, others-data w vs h.1)

pub data-distinct : (vs : List Value) → IsDistinct value_eq vs → IsDistinct same_value (data_of vs)
unfolding IsDistinct
data-distinct [] d = tt
data-distinct (w ∷ vs) d = (others-data w vs d.0, data-distinct vs d.1)

-- how many values a set of the code has
pub len-shown : (vs : List Value) → IsDistinct value_eq vs → set.len (values_in vs) ≡ length vs
len-shown vs d = len-all (data_of vs) (data-distinct vs d) ∙ length-map vs datum_of

-- no value is none, and one value is one
pub len-none : 0 ≡ set.len (values_in [])
len-none = sym (set.len-empty value_order)

pub len-one : (v : Value) → set.len (values_in (v ∷ [])) ≡ 1
unfolding IsDistinct
len-one v = len-shown (v ∷ []) (tt, tt)

-- whether a list of the code has a value
pub found-shown : (k : Value) (vs : List Value) → list_any (value_eq k) vs ≡ set.contains (values_in vs) (datum_of k)
found-shown k vs = found-data k vs ∙ sym (in_list (data_of vs) (datum_of k))

-- and a list of none or of one
pub found-none : (k : Value) → false ≡ set.contains (values_in []) (datum_of k)
found-none k = found-shown k []

pub found-one : (k v : Value) → value_eq k v ≡ set.contains (values_in (v ∷ [])) (datum_of k)
found-one k v = sym (or-false (value_eq k v)) ∙ found-shown k (v ∷ [])

-- a value that is there already adds nothing
pub held-insert : (vs : List Value) (k : Value) → set.contains (values_in vs) (datum_of k) ≡ true → values_in vs ≡ set.insert (values_in vs) (datum_of k)
held-insert vs k h = insert-there (data_of vs) (datum_of k) (sym (in_list (data_of vs) (datum_of k)) ∙ h)

-- nor does one that is equal to the only one
pub equal-insert : (v k : Value) → value_eq k v ≡ true → values_in (v ∷ []) ≡ set.insert (values_in (v ∷ [])) (datum_of k)
equal-insert v k h = held-insert (v ∷ []) k (sym (found-one k v) ∙ h)
