-- The lines of a table's groups are those of its records.
use Rattle.std.proofs.Common.{◌≡◌, ◌+◌, ℕ, ℤ, pos, true, false, cond, ◌||◌, List, [], ◌∷◌, map, length, Option, Some, None, filter, Bool, refl, sym, ap, subst, ◌∙◌, sum_by, arith}
use Rattle.std.proofs.lemmas.List.Sums.{sum_by-cons}
use Rattle.std.specs.declared.cmp.Ordering.TheVariants.{Less, Equal, Greater}
use Rattle.std.specs.List.{list_any, IsDistinct, AllByRecursion}
use Rattle.std.specs.FinMap.Entries.{by_order}
use Rattle.std.specs.Ordering.{is_eq}
use Rattle.std.specs.FinMap as fin
use Rattle.semantics.specs.Values.{whole}
use Rattle.semantics.specs.declared.function.ColumnFunction.{ColumnFunction}
use Rattle.semantics.specs.declared.function.ColumnFunction.TheVariants as function
use Rattle.semantics.specs.Groups.{Record, Key, project, key_order, same_key, keys, members}
use Rattle.semantics.specs.Aggregates.{column_numbers, column_values, AggregateFunction, plain, agg, value_over, filtered_rows, total, sum_of, average_of}
use Rattle.group_tables.specs.Inside.Accumulator.{summary}
use Rattle.group_tables.specs.Accumulator.{accumulator_state, state_over, state_counted, state_by, summed, averaged}
use Rattle.group_tables.specs.Group.{GroupState, group_state}
use Rattle.group_tables.specs.Inside.Group.{state_summary}
use Rattle.group_tables.specs.Table.{Contents, IsTableOf, group_over, table_of}
use Rattle.semantics.specs.ResultRows.{group_summary}
use Rattle.group_tables.specs.GroupSummaries.{group_summaries}
use Rattle.group_tables.specs.Bags.{SameBag}
use Rattle.group_tables.proofs.Bags.{sum_by-map}
use Rattle.group_tables.proofs.Order.{key_total, key_antisymmetric, same_key-Decides}
use Rattle.group_tables.proofs.Repeats.{distinct-is}
use Rattle.group_tables.proofs.Sets.{len-distinct}

-- ---- what is kept says the value of the function

sum-said : (lines : ℕ) (ns : List ℤ) → summary lines (summed (total ns) (length ns)) ≡ plain (sum_of ns)
sum-said lines [] = refl
sum-said lines (n ∷ ns) = refl

average-said : (lines : ℕ) (ns : List ℤ) → summary lines (averaged (total ns) (length ns)) ≡ average_of ns
average-said lines [] = refl
average-said lines (n ∷ ns) = refl

summary-over : (f : ColumnFunction) (rows : List Record) → summary (length rows) (state_over f rows) ≡ value_over f rows
summary-over function.CountRows rows = refl
summary-over (function.Count place) rows = refl
summary-over (function.CountDistinct place) rows = ap (λ n. plain (whole (pos n))) (len-distinct (column_values place rows))
summary-over (function.Sum place) rows = sum-said (length rows) (column_numbers place rows)
summary-over (function.Min place) rows = refl
summary-over (function.Max place) rows = refl
summary-over (function.Avg place) rows = average-said (length rows) (column_numbers place rows)

-- of the records that a filter keeps, whatever the number of all
summary-counted : (lines : ℕ) (f : ColumnFunction) (rows : List Record) → summary lines (state_counted f rows) ≡ value_over f rows
summary-counted lines function.CountRows rows = refl
summary-counted lines (function.Count place) rows = refl
summary-counted lines (function.CountDistinct place) rows = ap (λ n. plain (whole (pos n))) (len-distinct (column_values place rows))
summary-counted lines (function.Sum place) rows = sum-said lines (column_numbers place rows)
summary-counted lines (function.Min place) rows = refl
summary-counted lines (function.Max place) rows = refl
summary-counted lines (function.Avg place) rows = average-said lines (column_numbers place rows)

summary-by : (t : Option (Record → Bool)) (f : ColumnFunction) (rows : List Record) → summary (length rows) (state_by t f rows) ≡ value_over f (filtered_rows t rows)
summary-by None f rows = summary-over f rows
summary-by (Some keeps) f rows = summary-counted (length rows) f (filter keeps rows)

cells-accumulator_state : (fs : List AggregateFunction) (rows : List Record) → map (summary (length rows)) (map (λ f. accumulator_state f rows) fs) ≡ map (λ f. agg f rows) fs
cells-accumulator_state [] rows = refl
cells-accumulator_state (f ∷ fs) rows = λ i. summary-by f.filter f.function rows i ∷ cells-accumulator_state fs rows i

group_summary-accumulator_state : (fs : List AggregateFunction) (key : Key) (rows : List Record) → state_summary (key, group_state fs rows) ≡ group_summary fs key rows
group_summary-accumulator_state fs key rows = λ i. record { key = key; lines = length rows; cells = cells-accumulator_state fs rows i }

-- ---- the entries of a map as a bag

no_length : (es : List (Key × GroupState)) → length es ≡ 0 → es ≡ []
no_length [] e = refl
no_length (x ∷ es) e = absurd (omega arith)

nothing : fin.entries (fin.empty {X = GroupState} {R = key_order}) ≡ []
nothing = no_length _ (sym (fin.len-entries (fin.empty {X = GroupState} {R = key_order})) ∙ fin.len-empty key_order GroupState)

-- a bag with one more thing, put into its place
put-bag : (f : Key × GroupState → ℕ) (k : Key) (a : GroupState) (es : List (Key × GroupState)) → fin.find key_order k es ≡ None → sum_by f (fin.put key_order k a es) ≡ f (k, a) + sum_by f es
put-bag f k a [] none = sum_by-cons f (k, a) []
put-bag f k a (e ∷ es) none =
    elim (key_order k e.0) as (λ o. cond (is_eq o) (Some e.1) (fin.find key_order k es) ≡ None → sum_by f (by_order o ((k, a) ∷ e ∷ es) ((e.0, a) ∷ es) (e ∷ fin.put key_order k a es)) ≡ f (k, a) + sum_by f (e ∷ es)) [
      | Less ↦ λ n. sum_by-cons f (k, a) (e ∷ es)
      | Equal ↦ λ n. cc
      | Greater ↦ λ n. omega (arith, sum_by-cons f e (fin.put key_order k a es), put-bag f k a es n, sum_by-cons f e es)
    ] none

pub none-found : (k : Key) (es : List (Key × GroupState)) → AllByRecursion (λ y. same_key k y ≡ false) (map (λ e. e.0) es) → fin.find key_order k es ≡ None
none-found k [] h = refl
none-found k (e ∷ es) h = ap (λ b. cond b (Some e.1) (fin.find key_order k es)) h.0 ∙ none-found k es h.1

-- the entries of the map that distinct entries make are those
entries-bag : (es : List (Key × GroupState)) → IsDistinct same_key (map (λ e. e.0) es) → SameBag (fin.entries (fin.from_entries {R = key_order} es)) es
unfolding IsDistinct
entries-bag [] d f = ap (sum_by f) nothing
entries-bag (e ∷ es) d f =
    ap (sum_by f) (fin.entries-insert key_total (fin.from_entries es) e.0 e.1)
    ∙ put-bag f e.0 e.1 (fin.entries (fin.from_entries {R = key_order} es)) (sym (fin.get-entries (fin.from_entries es) e.0) ∙ fin.get-from_entries key_total es e.0 ∙ none-found e.0 es d.0)
    ∙ ap (λ n. f e + n) (entries-bag es d.1 f) ∙ sym (sum_by-cons f e es)

-- ---- the table of its groups

-- what is found at a key among the entries of some keys
pub found : (g : Key → GroupState) (q : Key) (ks : List Key) → fin.find key_order q (map (λ k. (k, g k)) ks) ≡ cond (list_any (same_key q) ks) (Some (g q)) None
found g q [] = refl
found g q (k ∷ ks) = ap (cond (same_key q k) (Some (g k))) (found g q ks)
    ∙ elim (same_key q k) as (λ b. same_key q k ≡ b → cond b (Some (g k)) (cond (list_any (same_key q) ks) (Some (g q)) None) ≡ cond (b || list_any (same_key q) ks) (Some (g q)) None) [
      | true ↦ λ e. ap (λ p. Some (g p)) (sym ((same_key-Decides q k).0 e))
      | false ↦ λ e. refl
    ] refl

pub table_of-is : (set : List ℕ) (fs : List AggregateFunction) (rows : List Record) → IsTableOf set fs (table_of set fs rows) rows
table_of-is set fs rows = λ key.
    fin.get-from_entries key_total (map (group_over set fs rows) (keys set rows)) key
    ∙ found (λ k. group_state fs (members set k rows)) key (keys set rows)

-- and no other table is
pub table-is : (set : List ℕ) (fs : List AggregateFunction) (t : Contents) (rows : List Record) → IsTableOf set fs t rows → t ≡ table_of set fs rows
table-is set fs t rows h = fin.same_map key_total key_antisymmetric _ _ (λ q.
    h q ∙ sym (found (λ k. group_state fs (members set k rows)) q (keys set rows))
    ∙ sym (fin.get-from_entries key_total (map (group_over set fs rows) (keys set rows)) q))

pub keys-distinct : (set : List ℕ) (rows : List Record) → IsDistinct same_key (keys set rows)
unfolding IsDistinct
keys-distinct [] rows = (tt, tt)
keys-distinct (p ∷ ps) rows = distinct-is same_key (map (project (p ∷ ps)) rows)

-- the keys of the entries of some keys are these
pub firsts : (set : List ℕ) (fs : List AggregateFunction) (rows : List Record) (ks : List Key) → ks ≡ map (λ e. e.0) (map (group_over set fs rows) ks)
firsts set fs rows [] = refl
firsts set fs rows (k ∷ ks) = ap (λ xs. k ∷ xs) (firsts set fs rows ks)

group_summaries-accumulator_state : (set : List ℕ) (fs : List AggregateFunction) (rows : List Record) (ks : List Key) → map state_summary (map (group_over set fs rows) ks) ≡ map (λ k. group_summary fs k (members set k rows)) ks
group_summaries-accumulator_state set fs rows [] = refl
group_summaries-accumulator_state set fs rows (k ∷ ks) = λ i. group_summary-accumulator_state fs k (members set k rows) i ∷ group_summaries-accumulator_state set fs rows ks i

-- the lines of distinct entries, whose map is a table of records, are those of the records' groups
pub lines-bag : (set : List ℕ) (fs : List AggregateFunction) (rows : List Record) (es : List (Key × GroupState)) (t : Contents) → fin.from_entries es ≡ t → IsTableOf set fs t rows
    → IsDistinct same_key (map (λ e. e.0) es) → SameBag (map state_summary es) (group_summaries set fs rows)
lines-bag set fs rows es t v h d f =
    let ks = keys set rows in
    let gs = map (group_over set fs rows) ks in
    let w : Key × GroupState → ℕ = λ e. f (state_summary e) in
    sum_by-map f state_summary es
    ∙ sym (entries-bag es d w)
    ∙ ap (λ m. sum_by w (fin.entries m)) (v ∙ table-is set fs t rows h)
    ∙ entries-bag gs (subst (λ (xs : List Key). IsDistinct same_key xs) (firsts set fs rows ks) (keys-distinct set rows)) w
    ∙ sym (sum_by-map f state_summary gs)
    ∙ ap (sum_by f) (group_summaries-accumulator_state set fs rows ks)
