-- Keys of ORDER BY that are left out of the codes.
use Rattle.std.proofs.Common.{◌≡◌, ◌≢◌, ◌∙◌, ◌+◌, ◌-◌, ◌<◌, ◌++◌, ◌==◌, ℕ, zero, suc, Bool, true, false, ◌&&◌, ◌||◌, cond, not, List, [], ◌∷◌, drop, length, map, get_or, slice_index_or, take, refl, sym, ap, take_all, arith, ⊎_elim}
use Rattle.std.specs.List.{AllByRecursion}
use Rattle.std.specs.declared.cmp.Ordering.{Ordering}
use Rattle.std.specs.declared.cmp.Ordering.TheVariants.{Less, Equal, Greater}
use Rattle.std.specs.Cmp.{Equal-is, tied_itself}
use Rattle.std.specs.Ordering.{nat_cmp, ordering_reverse, ordering_then}
use Rattle.std.specs.Cmp.Lexicographic.{slice_cmp}
use Rattle.std.proofs.lemmas.Bool.Decides.{nat_tests}
use Rattle.std.proofs.lemmas.List.{drop-map, length-drop, map_more}
use Rattle.std.proofs.lemmas.Bool.{cases_eq}
use Rattle.query_ast.specs.Syntax.{key_form}
use Rattle.query_ast.specs.declared.tree.Key.{Key}
use Rattle.values.specs.Datum.{datum_of}
use Rattle.semantics.specs.Values.{Datum, boolean, whole, text, null, value_order}
use Rattle.semantics.specs.Columns.{Field}
use Rattle.semantics.specs.Syntax.{SortKey, Query}
use Rattle.semantics.specs.Sets.{sets_of}
use Rattle.semantics.specs.ResultRows.{ResultRow}
use Rattle.semantics.specs.Types.{key_expression}
use Rattle.semantics.specs.Order.{key_value, null_order, compare_by_key, compare_by_keys}
use Rattle.query_plan.specs.Planned.{PlannedQuery}
use Rattle.group_tables.proofs.Order.{value_antisymmetric}
use Rattle.report_rows.specs.declared.coded_key.CodedKey.{CodedKey}
use Rattle.report_rows.specs.declared.source.ValueSource.{ValueSource}
use Rattle.report_rows.specs.declared.source.ValueSource.TheVariants.{KeyAt, CellAt, Always}
use Rattle.report_rows.specs.Inside.Sources.{AreSourcesBySet}
use Rattle.report_rows.specs.Inside.SortEntries.{AreEnough, AreTelling, CodedForm, are_default_behind, are_default_from, are_same_sources, coded_form, coded_value, is_default_at, is_first_at, is_key_at, is_repeated, is_same_source, under_coded, value_there, with_key}
use Rattle.report_rows.proofs.RowCodes.{by_key, under_values}
use Rattle.report_rows.proofs.Rows.{by_columns, later, same-length, same-order}
use Rattle.report_rows.proofs.Sources.{value-by-set}
use Rattle.report_rows.proofs.Totals.{under_key-total}

-- ---- tests that hold

first-holds : (a b : Bool) → (a && b) ≡ true → a ≡ true
first-holds true b e = refl
first-holds false b e = absurd cc

second-holds : (a b : Bool) → (a && b) ≡ true → b ≡ true
second-holds true b e = e
second-holds false b e = absurd cc

not-holds : (a : Bool) → not a ≡ true → a ≡ false
not-holds true e = absurd cc
not-holds false e = refl

at-place : (place at : ℕ) → (at == place) ≡ true → at ≡ place
at-place place at e = grind (arith, nat_tests)

-- ---- two orders in a row

then-again : (a b c : Ordering) → ordering_then a (ordering_then b c) ≡ ordering_then (ordering_then a b) c
then-again Less b c = refl
then-again Equal b c = refl
then-again Greater b c = refl

then-equal : (o : Ordering) → ordering_then o Equal ≡ o
then-equal Less = refl
then-equal Equal = refl
then-equal Greater = refl

-- ---- values that tie under a key

null-apart : (nulls_first : Bool) → null_order nulls_first ≢ Equal
null-apart true e = absurd cc
null-apart false e = absurd cc

null-apart-back : (nulls_first : Bool) → ordering_reverse (null_order nulls_first) ≢ Equal
null-apart-back true e = absurd cc
null-apart-back false e = absurd cc

level : (descending : Bool) (o : Ordering) → cond descending (ordering_reverse o) o ≡ Equal → o ≡ Equal
level true Less e = absurd cc
level true Equal e = refl
level true Greater e = absurd cc
level false o e = e

-- they are the same
tied-values : (k : SortKey) (a b : Datum) → compare_by_key k a b ≡ Equal → a ≡ b
tied-values k null null e = refl
tied-values k null (boolean b) e = absurd (null-apart k.nulls_first e)
tied-values k null (whole n) e = absurd (null-apart k.nulls_first e)
tied-values k null (text s) e = absurd (null-apart k.nulls_first e)
tied-values k (boolean a) null e = absurd (null-apart-back k.nulls_first e)
tied-values k (boolean a) (boolean b) e = value_antisymmetric (boolean a) (boolean b) (level k.descending (value_order (boolean a) (boolean b)) e)
tied-values k (boolean a) (whole n) e = value_antisymmetric (boolean a) (whole n) (level k.descending (value_order (boolean a) (whole n)) e)
tied-values k (boolean a) (text s) e = value_antisymmetric (boolean a) (text s) (level k.descending (value_order (boolean a) (text s)) e)
tied-values k (whole m) null e = absurd (null-apart-back k.nulls_first e)
tied-values k (whole m) (boolean b) e = value_antisymmetric (whole m) (boolean b) (level k.descending (value_order (whole m) (boolean b)) e)
tied-values k (whole m) (whole n) e = value_antisymmetric (whole m) (whole n) (level k.descending (value_order (whole m) (whole n)) e)
tied-values k (whole m) (text s) e = value_antisymmetric (whole m) (text s) (level k.descending (value_order (whole m) (text s)) e)
tied-values k (text r) null e = absurd (null-apart-back k.nulls_first e)
tied-values k (text r) (boolean b) e = value_antisymmetric (text r) (boolean b) (level k.descending (value_order (text r) (boolean b)) e)
tied-values k (text r) (whole n) e = value_antisymmetric (text r) (whole n) (level k.descending (value_order (text r) (whole n)) e)
tied-values k (text r) (text s) e = value_antisymmetric (text r) (text s) (level k.descending (value_order (text r) (text s)) e)

-- ---- keys that have the values of an earlier one

same-there : (x : ResultRow) (a b : ValueSource) → is_same_source a b ≡ true → value_there x a ≡ value_there x b
same-there x (KeyAt place) (KeyAt at) e = ap (λ (p : ℕ). slice_index_or x.1.key p null) (sym (at-place place at e))
same-there x (KeyAt place) (CellAt at) e = absurd cc
same-there x (KeyAt place) (Always value) e = absurd cc
same-there x (CellAt place) (KeyAt at) e = absurd cc
same-there x (CellAt place) (CellAt at) e = ap (λ (p : ℕ). value_there x (CellAt p)) (sym (at-place place at e))
same-there x (CellAt place) (Always value) e = absurd cc
same-there x (Always value) (KeyAt at) e = absurd cc
same-there x (Always value) (CellAt at) e = absurd cc
same-there x (Always value) (Always other) e = value_antisymmetric (datum_of value) (datum_of other) ((Equal-is (value_order (datum_of value) (datum_of other))).0 e)

all-there : (x : ResultRow) (first second : List ValueSource) → are_same_sources first second ≡ true → map (value_there x) first ≡ map (value_there x) second
all-there x [] [] e = refl
all-there x [] (b ∷ others) e = absurd cc
all-there x (a ∷ more) [] e = absurd cc
all-there x (a ∷ more) (b ∷ others) e =
    let here = same-there x a b (first-holds (is_same_source a b) (are_same_sources more others) e) in
    let rest = all-there x more others (second-holds (is_same_source a b) (are_same_sources more others) e) in
    λ i. here i ∷ rest i

none-both : (a : Bool) → (a && false) ≡ false
none-both true = refl
none-both false = refl

-- lists that are not equally long are not the same
pub not-same : (first second : List ValueSource) → length first ≢ length second → are_same_sources first second ≡ false
not-same [] [] other = absurd (other refl)
not-same [] (b ∷ others) other = refl
not-same (a ∷ more) [] other = refl
not-same (a ∷ more) (b ∷ others) other =
    ap (λ (t : Bool). is_same_source a b && t) (not-same more others (λ (e : length more ≡ length others). other (ap suc e))) ∙ none-both (is_same_source a b)

-- one more key tells nothing where it has the values of another
told-by : (cs : List CodedForm) (c : CodedForm) (x y : ResultRow) → is_repeated cs c.1 ≡ true
    → ordering_then (under_coded cs x y) (compare_by_key c.0 (coded_value x c) (coded_value y c)) ≡ under_coded cs x y
told-by [] c x y e = absurd cc
told-by (b ∷ cs) c x y e =
    let here = compare_by_key b.0 (coded_value x b) (coded_value y b) in
    let rest = under_coded cs x y in
    let last = compare_by_key c.0 (coded_value x c) (coded_value y c) in
    let value : (z : ResultRow) → are_same_sources b.1 c.1 ≡ true → coded_value z b ≡ coded_value z c = λ z same. ap (λ (vs : List Datum). slice_index_or vs z.0 null) (all-there z b.1 c.1 same) in
    let nothing : here ≡ Equal → are_same_sources b.1 c.1 ≡ true → last ≡ Equal =
    λ tied same.
    ap (compare_by_key c.0 (coded_value x c)) (sym (value y same) ∙ sym (tied-values b.0 (coded_value x b) (coded_value y b) tied) ∙ value x same)
    ∙ tied_itself (under_key-total c.0) (coded_value x c) in
    elim here as (λ (o : Ordering). here ≡ o → ordering_then (ordering_then o rest) last ≡ ordering_then o rest) [
      | Less ↦ λ _. refl
      | Equal ↦ λ tied.
          elim (are_same_sources b.1 c.1) as (λ (t : Bool). are_same_sources b.1 c.1 ≡ t → (t || is_repeated cs c.1) ≡ true → ordering_then rest last ≡ rest) [
            | true ↦ λ same _. ap (ordering_then rest) (nothing tied same) ∙ then-equal rest
            | false ↦ λ _ later. told-by cs c x y later
          ] refl e
      | Greater ↦ λ _. refl
    ] refl

coded-more : (cs : List CodedForm) (c : CodedForm) (x y : ResultRow) → under_coded (cs ++ c ∷ []) x y ≡ ordering_then (under_coded cs x y) (compare_by_key c.0 (coded_value x c) (coded_value y c))
coded-more [] c x y = then-equal (compare_by_key c.0 (coded_value x c) (coded_value y c))
coded-more (b ∷ cs) c x y =
    let here = compare_by_key b.0 (coded_value x b) (coded_value y b) in
    ap (ordering_then here) (coded-more cs c x y) ∙ then-again here (under_coded cs x y) (compare_by_key c.0 (coded_value x c) (coded_value y c))

keys-more : (fields : List Field) (t : Query) (ks : List SortKey) (k : SortKey) (x y : ResultRow)
    → compare_by_keys fields t (ks ++ k ∷ []) x y ≡ ordering_then (compare_by_keys fields t ks x y) (compare_by_key k (key_value fields t x k) (key_value fields t y k))
keys-more fields t [] k x y = then-equal (compare_by_key k (key_value fields t x k) (key_value fields t y k))
keys-more fields t (j ∷ ks) k x y =
    let here = compare_by_key j (key_value fields t x j) (key_value fields t y j) in
    ap (ordering_then here) (keys-more fields t ks k x y) ∙ then-again here (compare_by_keys fields t ks x y) (compare_by_key k (key_value fields t x k) (key_value fields t y k))

-- so a key that is left out where it has the values of another tells what it tells behind the
-- others
with-key-tells : (cs : List CodedForm) (c : CodedForm) (x y : ResultRow) → under_coded (with_key cs c) x y ≡ ordering_then (under_coded cs x y) (compare_by_key c.0 (coded_value x c) (coded_value y c))
with-key-tells cs c x y =
    elim (is_repeated cs c.1) as (λ (t : Bool). is_repeated cs c.1 ≡ t → under_coded (cond t cs (cs ++ c ∷ [])) x y ≡ ordering_then (under_coded cs x y) (compare_by_key c.0 (coded_value x c) (coded_value y c))) [
      | true ↦ λ e. sym (told-by cs c x y e)
      | false ↦ λ _. coded-more cs c x y
    ] refl

-- one key of ORDER BY more
pub telling-more : (plan : PlannedQuery) (keys : List Key) (i : ℕ) (key : Key) (kept new : List CodedForm) (sources : List ValueSource) → i < length keys → key ≡ get_or keys i key → new ≡ with_key kept (key_form key, sources)
    → AreSourcesBySet plan (key_expression plan.query.items (key_form key).expression) (sets_of plan.fields plan.query) sources
    → AreTelling kept (map key_form (take i keys)) plan.fields plan.query → AreTelling new (map key_form (take (i + 1) keys)) plan.fields plan.query
telling-more plan keys i key kept new sources within is made each told x y at_x at_y =
    let fields = plan.fields in
    let t = plan.query in
    let k = key_form key in
    let value : (z : ResultRow) → z.0 < length (sets_of fields t) → coded_value z (k, sources) ≡ key_value fields t z k = λ z at. value-by-set plan k sources z each at in
    let keys_are : map key_form (take (i + 1) keys) ≡ map key_form (take i keys) ++ k ∷ [] =
    map_more key_form keys i key within ∙ (λ j. map key_form (take i keys) ++ key_form (sym is j) ∷ []) in
    ap (λ (cs : List CodedForm). under_coded cs x y) made
    ∙ with-key-tells kept (k, sources) x y
    ∙ (λ j. ordering_then (told x y at_x at_y j) (compare_by_key k (value x at_x j) (value y at_y j)))
    ∙ sym (keys-more fields t (map key_form (take i keys)) k x y)
    ∙ ap (λ (ks : List SortKey). compare_by_keys fields t ks x y) (sym keys_are)

-- keys that tell what all keys of ORDER BY tell are enough
pub enough-telling : (cs : List CodedForm) (fields : List Field) (t : Query) → AreTelling cs t.keys fields t → AreEnough cs fields t
enough-telling cs fields t told x y fx fy = ap (λ (o : Ordering). ordering_then o (by_columns fields t x y)) (told x y fx.0 fy.0)

-- ---- default keys

abbrev IsDefault : SortKey → Type 0
IsDefault k = (k.descending ≡ false) × (k.nulls_first ≡ false)

-- under a default key values stand as they do
default-order : (k : SortKey) → IsDefault k → (a b : Datum) → compare_by_key k a b ≡ value_order a b
default-order k d null null = refl
default-order k d null (boolean b) = ap null_order d.1
default-order k d null (whole n) = ap null_order d.1
default-order k d null (text s) = ap null_order d.1
default-order k d (boolean a) null = rw d.1 refl
default-order k d (boolean a) (boolean b) = rw d.0 refl
default-order k d (boolean a) (whole n) = rw d.0 refl
default-order k d (boolean a) (text s) = rw d.0 refl
default-order k d (whole m) null = rw d.1 refl
default-order k d (whole m) (boolean b) = rw d.0 refl
default-order k d (whole m) (whole n) = rw d.0 refl
default-order k d (whole m) (text s) = rw d.0 refl
default-order k d (text r) null = rw d.1 refl
default-order k d (text r) (boolean b) = rw d.0 refl
default-order k d (text r) (whole n) = rw d.0 refl
default-order k d (text r) (text s) = rw d.0 refl

none-differ : (place : ℕ) (ks : List SortKey) → under_values place ks [] [] ≡ Equal
none-differ place [] = refl
none-differ place (k ∷ ks) = none-differ (suc place) ks

-- default keys for the first values of lists that are equally long tell nothing that the lists do
-- not
tell-nothing : (ks : List SortKey) → AllByRecursion IsDefault ks → (xs ys : List Datum) → length xs ≡ length ys
    → ordering_then (under_values 0 ks xs ys) (slice_cmp value_order xs ys) ≡ slice_cmp value_order xs ys
tell-nothing [] all xs ys long = refl
tell-nothing (k ∷ ks) all [] [] long = ap (λ (o : Ordering). ordering_then o Equal) (none-differ 1 ks)
tell-nothing (k ∷ ks) all [] (y ∷ ys) long = absurd (omega (arith, long))
tell-nothing (k ∷ ks) all (x ∷ xs) [] long = absurd (omega (arith, long))
tell-nothing (k ∷ ks) all (x ∷ xs) (y ∷ ys) long =
    let rest = slice_cmp value_order xs ys in
    (λ i. ordering_then (ordering_then (default-order k all.0 x y i) (later 0 ks x y xs ys i)) (ordering_then (value_order x y) rest))
    ∙ (elim (value_order x y) as (λ (o : Ordering). ordering_then (ordering_then o (under_values 0 ks xs ys)) (ordering_then o rest) ≡ ordering_then o rest) [
      | Less ↦ refl
      | Equal ↦ tell-nothing ks all.1 xs ys (omega (arith, long))
      | Greater ↦ refl
    ])

-- ---- keys that are those of a group's key

are-default : (place : ℕ) (cs : List CodedForm) → are_default_from place cs ≡ true → AllByRecursion IsDefault (map (λ c. c.0) cs)
are-default place [] e = tt
are-default place (c ∷ cs) e =
    let here = first-holds (is_default_at place c) (are_default_from (suc place) cs) e in
    let later = second-holds (not c.0.descending) (not c.0.nulls_first && is_first_at place c.1) here in (
      (
        not-holds c.0.descending (first-holds (not c.0.descending) (not c.0.nulls_first && is_first_at place c.1) here),
        not-holds c.0.nulls_first (first-holds (not c.0.nulls_first) (is_first_at place c.1) later),
      ),
      are-default (suc place) cs (second-holds (is_default_at place c) (are_default_from (suc place) cs) e),
    )

key-at : (x : ResultRow) (place : ℕ) (source : ValueSource) → is_key_at place source ≡ true → value_there x source ≡ slice_index_or x.1.key place null
key-at x place (KeyAt at) e = ap (λ (p : ℕ). slice_index_or x.1.key p null) (at-place place at e)
key-at x place (CellAt at) e = absurd cc
key-at x place (Always value) e = absurd cc

-- a row of the first grouping set has its value at the first source
first-at : (x : ResultRow) → x.0 ≡ 0 → (place : ℕ) (sources : List ValueSource) → is_first_at place sources ≡ true → slice_index_or (map (value_there x) sources) x.0 null ≡ slice_index_or x.1.key place null
first-at x first place [] e = absurd cc
first-at x first place (source ∷ sources) e = ap (λ (n : ℕ). slice_index_or (map (value_there x) (source ∷ sources)) n null) first ∙ key-at x place source e

-- under such keys rows of the first grouping set stand as by the first values of the keys of their
-- groups
under-first : (x y : ResultRow) → x.0 ≡ 0 → y.0 ≡ 0 → (place : ℕ) (cs : List CodedForm) → are_default_from place cs ≡ true → under_coded cs x y ≡ under_values place (map (λ c. c.0) cs) x.1.key y.1.key
under-first x y first_x first_y place [] e = refl
under-first x y first_x first_y place (c ∷ cs) e =
    let here = first-holds (is_default_at place c) (are_default_from (suc place) cs) e in
    let later = second-holds (is_default_at place c) (are_default_from (suc place) cs) e in
    let is_at = second-holds (not c.0.nulls_first) (is_first_at place c.1) (second-holds (not c.0.descending) (not c.0.nulls_first && is_first_at place c.1) here) in
    let value_x = first-at x first_x place c.1 is_at in
    let value_y = first-at y first_y place c.1 is_at in
    let rest = under-first x y first_x first_y (suc place) cs later in
    λ i. ordering_then (compare_by_key c.0 (value_x i) (value_y i)) (rest i)

-- ---- what is left of the keys

-- under keys rows stand as under the first of them, and then under those behind
parted : (x y : ResultRow) (count : ℕ) (cs : List CodedForm) → under_coded cs x y ≡ ordering_then (under_coded (take count cs) x y) (under_coded (drop count cs) x y)
parted x y zero cs = refl
parted x y (suc count) [] = refl
parted x y (suc count) (c ∷ cs) =
    let here = compare_by_key c.0 (coded_value x c) (coded_value y c) in
    ap (ordering_then here) (parted x y count cs)
    ∙ then-again here (under_coded (take count cs) x y) (under_coded (drop count cs) x y)

-- with one grouping set the keys in front of those that begin the default order are enough
pub enough-in-front : (cs : List CodedForm) (fields : List Field) (t : Query) (count : ℕ) → AreTelling cs t.keys fields t → length (sets_of fields t) ≡ 1 → are_default_behind count cs ≡ true → AreEnough (take count cs) fields t
enough-in-front cs fields t count told single e x y fx fy =
    let first = under_coded (take count cs) x y in
    let behind = drop count cs in
    let ks = map (λ (c : CodedForm). c.0) behind in
    let within_x = fx.0 in
    let within_y = fy.0 in
    let at_x : x.0 ≡ 0 = omega (arith, within_x, single) in
    let at_y : y.0 ≡ 0 = omega (arith, within_y, single) in
    let tied : nat_cmp x.0 y.0 ≡ Equal = λ i. nat_cmp (at_x i) (at_y i) in
    let keys = slice_cmp value_order x.1.key y.1.key in
    let by_keys : by_key x y ≡ keys = λ i. ordering_then (tied i) keys in
    let said = under-first x y at_x at_y 0 behind e in
    let nothing : ordering_then (under_coded behind x y) (by_key x y) ≡ by_key x y =
    (λ i. ordering_then (said i) (by_keys i))
    ∙ tell-nothing ks (are-default 0 behind e) x.1.key y.1.key (same-length fields t x y fx fy (at_x ∙ sym at_y))
    ∙ sym by_keys in
    let order = same-order fields t x y fx fy in
    ap (ordering_then first) (order ∙ sym nothing)
    ∙ then-again first (under_coded behind x y) (by_key x y)
    ∙ (λ i. ordering_then ((sym (parted x y count cs) ∙ told x y within_x within_y) i) (sym order i))

-- ---- the loop

behind-all : {X : Type 0} (count : ℕ) (xs : List X) → take (length xs - count) (drop count xs) ≡ drop count xs
behind-all count xs = let left = length-drop count xs in take_all (length xs - count) (drop count xs) (omega (arith, left))

-- the keys of the code behind so many
pub keys-behind : (keys : List CodedKey) (count : ℕ) → are_default_from 0 (map coded_form (take (length keys - count) (drop count keys))) ≡ are_default_behind count (map coded_form keys)
keys-behind keys count = ap (are_default_from 0) (ap (map coded_form) (behind-all count keys) ∙ sym (drop-map coded_form count keys))

-- what holds for no number below holds for none up to one for which it does not hold either
pub none-more : (test : ℕ → Bool) (count : ℕ) → ((n : ℕ) → n < count → test n ≡ false) → test count ≡ false → (n : ℕ) → n < count + 1 → test n ≡ false
none-more test count below here n within =
    ⊎_elim (λ (same : n ≡ count). ap test same ∙ here) (λ (other : n ≢ count). below n (omega (arith, within, other))) (cases_eq n count)
