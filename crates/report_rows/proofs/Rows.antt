-- The order of rows that fit a query.
use Rattle.std.proofs.Common.{◌≡◌, ◌≢◌, ◌<◌, ℕ, suc, ◌==◌, Bool, true, false, List, [], ◌∷◌, length, map, get_or, slice_index_or, refl, sym, ap, subst, ◌∙◌, arith, All, AllPairs, IsPermutation, IsSortedBy, Bor}
use Rattle.std.specs.Prelude.{filter}
use Rattle.std.specs.declared.cmp.Ordering.{Ordering}
use Rattle.std.specs.declared.cmp.Ordering.TheVariants.{Less, Equal, Greater}
use Rattle.std.specs.Ordering.{is_eq, is_gt, is_lt, nat_cmp, ordering_then}
use Rattle.std.specs.Cmp.{Equal-is}
use Rattle.std.specs.Cmp.Lexicographic.{slice_cmp}
use Rattle.std.specs.List.{AllByRecursion, list_any}
use Rattle.std.proofs.lemmas.List.{get_or-map, length-map}
use Rattle.std.proofs.lemmas.List.Elements.{All-from_recursion, recursion_from_All}
use Rattle.std.proofs.lemmas.List.Sorted.{All-permutation, IsPermutation-map}
use Rattle.std.proofs.lemmas.Map.Lookups.{exact_unsigned}
use Rattle.semantics.specs.Values.{Datum, null, value_order}
use Rattle.semantics.specs.Columns.{Field}
use Rattle.semantics.specs.Syntax.{SortKey, Query}
use Rattle.semantics.specs.Names.{places_of}
use Rattle.semantics.specs.Sets.{grouping_names, grouping_places, sets_of}
use Rattle.query_resolve.proofs.DistinctSets.{names_kept, set_of_names, sets_by_names}
use Rattle.group_tables.specs.declared.group.Group.{Group}
use Rattle.semantics.specs.Groups.{key_order}
use Rattle.group_tables.specs.Bags.{SameBag}
use Rattle.group_tables.proofs.Order.{key_antisymmetric}
use Rattle.semantics.specs.ResultRows.{ResultRow, set_of}
use Rattle.group_tables.specs.GroupRows.{row_of}
use Rattle.semantics.specs.Rows.{rows_having_true}
use Rattle.semantics.specs.Order.{grouping_values, compare_by_key, compare_by_keys, row_order, sorted_rows}
use Rattle.semantics.specs.Lists.{sorted_by}
use Rattle.group_tables.specs.Ascending.{NoneBefore, Ascends}
use Rattle.report_rows.specs.Inside.SortEntries.{AreEnough, CodedForm, EntryForm, HasKeyOf, IsCodableRow, by_code, entry_at, under_coded}
use Rattle.group_tables.specs.Fitting.{AreFitting}
use Rattle.report_rows.specs.Laws.{IsTheOrder, IsBlind}
use Rattle.report_rows.proofs.Filtering.{bag-having_true, fit-having_true}
use Rattle.report_rows.proofs.Totals.{before-total, by_code-total}
use Rattle.report_rows.proofs.RowCodes.{by_key, codes-tell, under_values}
use Rattle.sort_keys.specs.SortKeys.{parts_order}
use Rattle.group_tables.proofs.Bags.{bag-permutation}
use Rattle.group_tables.proofs.Sorting.{Apart, apart-in_order, ascends-in_order, ascends-sorted, one-list, sum_by-in_order}
use Rattle.report_rows.proofs.Sameness.{both-tied, found-tells, same_found}
use Rattle.report_rows.proofs.Maps.{map-twice}
use Rattle.report_rows.proofs.Places.{different-distinct, order-same_set}

-- ---- one row and another

-- the grouping columns that are in the set that is written with these names
abbrev is_in : List Field → List (List ℕ) → ℕ → Bool
is_in fields names c = list_any (λ p. p == c) (places_of fields names)

set-part : (fields : List Field) (t : Query) (x : ResultRow) → x.0 < length (sets_of fields t) → set_of fields t x ≡ filter (is_in fields (get_or (names_kept fields t) x.0 [])) (grouping_places fields t)
set-part fields t x within =
    let n = ap length (sets_by_names fields t) ∙ length-map (names_kept fields t) (set_of_names fields t) in
    ap (λ (sets : List (List ℕ)). get_or sets x.0 []) (sets_by_names fields t)
    ∙ get_or-map (set_of_names fields t) (names_kept fields t) x.0 [] [] (omega (arith, within, n))

-- how two rows stand to each other by the index of their grouping set, and in one set by what they
-- show for the grouping columns
abbrev pub by_columns : List Field → Query → ResultRow → ResultRow → Ordering
by_columns fields t x y = ordering_then (nat_cmp x.0 y.0) (slice_cmp value_order (grouping_values fields t x) (grouping_values fields t y))

-- rows that fit stand so as their keys do
pub same-order : (fields : List Field) (t : Query) (x y : ResultRow) → HasKeyOf fields t x → HasKeyOf fields t y → by_columns fields t x y ≡ by_key x y
same-order fields t x y fx fy =
    elim (nat_cmp x.0 y.0) as (λ (o : Ordering). nat_cmp x.0 y.0 ≡ o → ordering_then o (slice_cmp value_order (grouping_values fields t x) (grouping_values fields t y)) ≡ ordering_then o (key_order x.1.key y.1.key)) [
      | Less ↦ λ _. refl
      | Equal ↦ λ e.
          order-same_set (grouping_places fields t) (set_of fields t x) (set_of fields t y) (is_in fields (get_or (names_kept fields t) x.0 [])) (different-distinct (places_of fields (grouping_names t)))
          (set-part fields t x fx.0) (ap (λ (i : ℕ). get_or (sets_of fields t) i []) (sym (exact_unsigned x.0 y.0 e))) x.1.key y.1.key fx.1 fy.1
      | Greater ↦ λ _. refl
    ] refl

-- the first value of each list out of the way
pub later : (place : ℕ) (ks : List SortKey) (x y : Datum) (xs ys : List Datum) → under_values (suc place) ks (x ∷ xs) (y ∷ ys) ≡ under_values place ks xs ys
later place [] x y xs ys = refl
later place (k ∷ ks) x y xs ys = ap (ordering_then (compare_by_key k (slice_index_or xs place null) (slice_index_or ys place null))) (later (suc place) ks x y xs ys)

-- the code beside the row is its own, which tells it from others, and the row fits
pub record IsRight (cs : List CodedForm) (fields : List Field) (t : Query) (r : EntryForm) : Type 0 where
  code : r.0 ≡ (entry_at cs r.1).0
  fits : HasKeyOf fields t r.1
  codable : IsCodableRow cs r.1

-- the keys of one set are equally long
pub same-length : (fields : List Field) (t : Query) (x y : ResultRow) → HasKeyOf fields t x → HasKeyOf fields t y → x.0 ≡ y.0 → length x.1.key ≡ length y.1.key
same-length fields t x y fx fy same = fx.1 ∙ ap (λ (i : ℕ). length (get_or (sets_of fields t) i [])) same ∙ sym fy.1

abbrev row_beside : EntryForm → ResultRow
row_beside r = r.1

module _ (cs : List CodedForm) (fields : List Field) (t : Query) (enough : AreEnough cs fields t) where
  -- rows that fit stand as the codes beside them have them
  same-rank : (r s : EntryForm) → IsRight cs fields t r → IsRight cs fields t s → row_order fields t r.1 s.1 ≡ by_code r s
  same-rank r s p q =
      sym (enough r.1 s.1 p.fits q.fits)
      ∙ ap (ordering_then (under_coded cs r.1 s.1)) (same-order fields t r.1 s.1 p.fits q.fits)
      ∙ sym (codes-tell cs r.1 s.1 p.codable q.codable (same-length fields t r.1 s.1 p.fits q.fits))
      ∙ (λ i. parts_order (sym p.code i) (sym q.code i))

  none-same : (r : EntryForm) (rs : List EntryForm) → IsRight cs fields t r → AllByRecursion (IsRight cs fields t) rs → NoneBefore by_code r rs → NoneBefore (row_order fields t) r.1 (map row_beside rs)
  none-same r [] p all n = tt
  none-same r (s ∷ rs) p all n = (ap is_gt (same-rank r s p all.0) ∙ n.0, none-same r rs p all.1 n.1)

  pub ascends-same : (rs : List EntryForm) → AllByRecursion (IsRight cs fields t) rs → Ascends by_code rs → Ascends (row_order fields t) (map row_beside rs)
  ascends-same [] all a = tt
  ascends-same (r ∷ rs) all a = (none-same r rs all.0 all.1 a.0, ascends-same rs all.1 a.1)

-- two rows with other keys under one index do not tie
untied : (fields : List Field) (t : Query) (x y : ResultRow) → HasKeyOf fields t x → HasKeyOf fields t y → (x.0 ≡ y.0 → x.1.key ≢ y.1.key) → is_eq (row_order fields t x y) ≡ false
untied fields t x y fx fy other =
    elim (is_eq (row_order fields t x y)) as (λ (b : Bool). is_eq (row_order fields t x y) ≡ b → b ≡ false) [
      | true ↦ λ e.
          let under = both-tied (compare_by_keys fields t t.keys x y) (by_columns fields t x y) ((Equal-is (row_order fields t x y)).0 e) in
          let tied = both-tied (nat_cmp x.0 y.0) (key_order x.1.key y.1.key) (sym (same-order fields t x y fx fy) ∙ under.1) in
          absurd (other (exact_unsigned x.0 y.0 tied.0) (key_antisymmetric x.1.key y.1.key tied.1))
      | false ↦ λ _. refl
    ] refl

untied-all : (fields : List Field) (t : Query) (x : ResultRow) (ys : List ResultRow) → HasKeyOf fields t x → AllByRecursion (HasKeyOf fields t) ys → AllByRecursion (λ y. x.0 ≡ y.0 → x.1.key ≢ y.1.key) ys → AllByRecursion (λ y. is_eq (row_order fields t x y) ≡ false) ys
untied-all fields t x [] fx all others = tt
untied-all fields t x (y ∷ ys) fx all others = (untied fields t x y fx all.0 others.0, untied-all fields t x ys fx all.1 others.1)

apart : (fields : List Field) (t : Query) (found : List ResultRow) → AllByRecursion (HasKeyOf fields t) found → AllPairs (λ x y. x.0 ≡ y.0 → x.1.key ≢ y.1.key) found → Apart (row_order fields t) found
apart fields t [] all pairs = tt
apart fields t (x ∷ found) all pairs = (
  untied-all fields t x found all.0 all.1 (recursion_from_All (λ (y : ResultRow). x.0 ≡ y.0 → x.1.key ≢ y.1.key) found (λ k d within. pairs 0 (suc k) d (omega arith) (omega arith))),
  apart fields t found all.1 (λ i j d below within. pairs (suc i) (suc j) d (omega arith) (omega arith)),
)

all-fit : (fields : List Field) (t : Query) (found : List ResultRow) → AreFitting fields t found → All (HasKeyOf fields t) found
all-fit fields t found fit k d within = (fit.indexes k d within, fit.keys k d within)

apart-fitting : (fields : List Field) (t : Query) (found : List ResultRow) → AreFitting fields t found → Apart (row_order fields t) (sorted_by (row_order fields t) found)
apart-fitting fields t found fit =
    apart-in_order (before-total fields t) found (apart fields t found (recursion_from_All (HasKeyOf fields t) found (all-fit fields t found fit)) fit.distinct)

-- ---- the laws

-- rows that ascend are in order
only-order : (fields : List Field) (t : Query) (found others : List ResultRow) → AreFitting fields t found → SameBag found others → Ascends (row_order fields t) others → others ≡ sorted_by (row_order fields t) found
only-order fields t found others fit bag up =
    sym (one-list (before-total fields t) same_found found-tells (sorted_by (row_order fields t) found) others (apart-fitting fields t found fit) (ascends-in_order (before-total fields t) found) up
    (λ f. sum_by-in_order (row_order fields t) f found ∙ bag f))

pub the-order : (fields : List Field) (t : Query) (found : List ResultRow) → AreFitting fields t found → IsTheOrder fields t found
the-order fields t found fit = record {
  same = λ f. sym (sum_by-in_order (row_order fields t) f (rows_having_true fields t found));
  ascends = ascends-in_order (before-total fields t) (rows_having_true fields t found);
  only = λ others. only-order fields t (rows_having_true fields t found) others (fit-having_true fields t found fit);
}

pub is-blind : (fields : List Field) (t : Query) (found : List ResultRow) → AreFitting fields t found → IsBlind fields t found
is-blind fields t found fit others bag =
    only-order fields t (rows_having_true fields t found) (sorted_rows fields t others) (fit-having_true fields t found fit)
    (λ f. bag-having_true fields t found others bag f ∙ sym (sum_by-in_order (row_order fields t) f (rows_having_true fields t others)))
    (ascends-in_order (before-total fields t) (rows_having_true fields t others))

-- ---- the code's sort

-- what a reference to a group of the code shows
abbrev pub row_at : Bor (ℕ × Group) → ResultRow
row_at r = row_of r.now

each-right : (cs : List CodedForm) (fields : List Field) (t : Query) (found : List ResultRow) → AllByRecursion (HasKeyOf fields t) found → AllByRecursion (IsCodableRow cs) found → AllByRecursion (IsRight cs fields t) (map (entry_at cs) found)
each-right cs fields t [] all codable = tt
each-right cs fields t (x ∷ found) all codable = (record { code = refl; fits = all.0; codable = codable.0 }, each-right cs fields t found all.1 codable.1)

rows-beside : (cs : List CodedForm) (found : List ResultRow) → map row_beside (map (entry_at cs) found) ≡ found
rows-beside cs [] = refl
rows-beside cs (x ∷ found) = ap (λ (xs : List ResultRow). x ∷ xs) (rows-beside cs found)

-- what is a permutation of rows beside values
pub ranks-moved : {Y : Type 0} (rank : Y → EntryForm) (beside : ResultRow → EntryForm) (found : List ResultRow) (gathered sorted : List Y) → map rank gathered ≡ map beside found → IsPermutation gathered sorted
    → IsPermutation (map beside found) (map rank sorted)
ranks-moved rank beside found gathered sorted are moved = subst (λ (rs : List EntryForm). IsPermutation rs (map rank sorted)) are (IsPermutation-map rank gathered sorted moved)

-- what is sorted by the codes of the rows, of enough keys, has the rows in their order
pub sorted-ranks : {Y : Type 0} (rank : Y → EntryForm) (cs : List CodedForm) (fields : List Field) (t : Query) (found : List ResultRow) (sorted : List Y) → AreEnough cs fields t → IsPermutation (map (entry_at cs) found) (map rank sorted)
    → IsSortedBy (λ a b. is_lt (by_code (rank a) (rank b))) sorted → AllByRecursion (IsCodableRow cs) found → AreFitting fields t found
    → map (λ y. (rank y).1) sorted ≡ sorted_by (row_order fields t) found
sorted-ranks {Y} rank cs fields t found sorted enough there up codable fit =
    let Right = IsRight cs fields t in
    let entries = map (entry_at cs) found in
    let fits : AllByRecursion Right entries = each-right cs fields t found (recursion_from_All (HasKeyOf fields t) found (all-fit fields t found fit)) codable in
    let right : AllByRecursion Right (map rank sorted) = recursion_from_All Right (map rank sorted) (All-permutation Right entries (map rank sorted) there (All-from_recursion Right entries fits)) in
    let rows : IsPermutation found (map row_beside (map rank sorted)) =
    subst (λ (xs : List ResultRow). IsPermutation xs (map row_beside (map rank sorted))) (rows-beside cs found) (IsPermutation-map row_beside entries (map rank sorted) there) in
    sym (map-twice row_beside rank sorted)
    ∙ only-order fields t found (map row_beside (map rank sorted)) fit (bag-permutation found (map row_beside (map rank sorted)) rows)
    (ascends-same cs fields t enough (map rank sorted) right (ascends-sorted by_code-total rank sorted up))
