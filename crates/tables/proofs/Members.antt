-- The rows of a grouping set, among those of all sets.
use Rattle.std.proofs.Common.{◌≡◌, ◌==◌, ◌+◌, ◌<◌, ℕ, zero, suc, Bool, true, false, cond, List, [], ◌∷◌, map, length, slice_index_or, refl, sym, ap, ◌∙◌, sum_by, arith}
use Rattle.std.proofs.lemmas.List.Sums.{sum_by-append, sum_by-cons}
use Rattle.std.proofs.lemmas.Bool.{ne_eqb}
use Rattle.std.proofs.lemmas.Bool.Decides.{nat_tests}
use Rattle.std.proofs.lemmas.List.{map-append}
use Rattle.std.specs.List.{enumerate_from, flat_map}
use Rattle.semantics.specs.Aggregates.{AggregateFunction}
use Rattle.semantics.specs.ResultRows.{aggregate_functions, group_summary, ResultRow, row_of_group, rows_before_having}
use Rattle.semantics.specs.Sets.{sets_of}
use Rattle.semantics.specs.Conditions.{kept_records}
use Rattle.semantics.specs.Groups.{Record, Key, keys, members}
use Rattle.group_tables.specs.GroupSummaries.{group_summaries}
use Rattle.group_tables.specs.Bags.{SameBag}
use Rattle.group_tables.proofs.Bags.{sum_by-filter, sum_by-flat_map, sum_by-map}
use Rattle.tables.specs.Members.{HasEachRecordOnce, members_of_row, rows_of_set}
use Rattle.tables.proofs.Finding.{set_groups}
use Rattle.query_plan.specs.Planned.{PlannedQuery}

both : (b : Bool) (m n : ℕ) → cond b m 0 + cond b n 0 ≡ cond b (m + n) 0
both true m n = refl
both false m n = refl

neither : (b : Bool) → ◌≡◌ {A = ℕ} 0 (cond b 0 0)
neither true = refl
neither false = refl

-- the weight of a row of the grouping set with this index; the rows of other sets weigh nothing
abbrev of_set : ℕ → (ResultRow → ℕ) → ResultRow → ℕ
of_set index f row = cond (row.0 == index) (f row) 0

-- the rows of a set, by some of its keys
abbrev rows_of : List AggregateFunction → List Record → ℕ → List ℕ → List Key → List ResultRow
rows_of fs rows n set ks = map (row_of_group fs) (map (λ key. record { index = n; key = key; members = members set key rows }) ks)

one-set : (index : ℕ) (f : ResultRow → ℕ) (fs : List AggregateFunction) (rows : List Record) (n : ℕ) (set : List ℕ) (ks : List Key)
    → sum_by (of_set index f) (rows_of fs rows n set ks) ≡ cond (n == index) (sum_by (λ key. f (n, group_summary fs key (members set key rows))) ks) 0
one-set index f fs rows n set [] = neither (n == index)
one-set index f fs rows n set (k ∷ ks) =
    sum_by-cons (of_set index f) (n, group_summary fs k (members set k rows)) (rows_of fs rows n set ks)
    ∙ ap (λ m. cond (n == index) (f (n, group_summary fs k (members set k rows))) 0 + m) (one-set index f fs rows n set ks)
    ∙ both (n == index) (f (n, group_summary fs k (members set k rows))) (sum_by (λ key. f (n, group_summary fs key (members set key rows))) ks)
    ∙ ap (λ m. cond (n == index) m 0) (sym (sum_by-cons (λ key. f (n, group_summary fs key (members set key rows))) k ks))

-- the weight of the rows of all sets, of which the first has the index n
abbrev weight_from : ℕ → (ResultRow → ℕ) → List AggregateFunction → List Record → ℕ → List (List ℕ) → ℕ
weight_from index f fs rows n sets = sum_by (of_set index f) (map (row_of_group fs) (flat_map (set_groups rows) (enumerate_from n sets)))

first-set : (index : ℕ) (f : ResultRow → ℕ) (fs : List AggregateFunction) (rows : List Record) (n : ℕ) (set : List ℕ) (sets : List (List ℕ))
    → weight_from index f fs rows n (set ∷ sets)
    ≡ cond (n == index) (sum_by (λ key. f (n, group_summary fs key (members set key rows))) (keys set rows)) 0 + weight_from index f fs rows (n + 1) sets
first-set index f fs rows n set sets =
    let front = rows_of fs rows n set (keys set rows) in
    let rest = map (row_of_group fs) (flat_map (set_groups rows) (enumerate_from (n + 1) sets)) in
    ap (sum_by (of_set index f)) (map-append (row_of_group fs) (set_groups rows (n, set)) (flat_map (set_groups rows) (enumerate_from (n + 1) sets)))
    ∙ sum_by-append (of_set index f) front rest
    ∙ ap (λ m. m + sum_by (of_set index f) rest) (one-set index f fs rows n set (keys set rows))

other-set : (index : ℕ) (f : ResultRow → ℕ) (fs : List AggregateFunction) (rows : List Record) (n : ℕ) (set : List ℕ) (sets : List (List ℕ)) → (n == index) ≡ false
    → weight_from index f fs rows n (set ∷ sets) ≡ 0 + weight_from index f fs rows (n + 1) sets
other-set index f fs rows n set sets other =
    first-set index f fs rows n set sets
    ∙ ap (λ b. cond b (sum_by (λ key. f (n, group_summary fs key (members set key rows))) (keys set rows)) 0 + weight_from index f fs rows (n + 1) sets) other

this-set : (index : ℕ) (f : ResultRow → ℕ) (fs : List AggregateFunction) (rows : List Record) (n : ℕ) (set : List ℕ) (sets : List (List ℕ)) → (n == index) ≡ true
    → weight_from index f fs rows n (set ∷ sets) ≡ sum_by (λ key. f (n, group_summary fs key (members set key rows))) (keys set rows) + weight_from index f fs rows (n + 1) sets
this-set index f fs rows n set sets this =
    first-set index f fs rows n set sets
    ∙ ap (λ b. cond b (sum_by (λ key. f (n, group_summary fs key (members set key rows))) (keys set rows)) 0 + weight_from index f fs rows (n + 1) sets) this

-- behind its set there are no rows of it
behind : (index : ℕ) (f : ResultRow → ℕ) (fs : List AggregateFunction) (rows : List Record) (n : ℕ) (sets : List (List ℕ)) → index < n → weight_from index f fs rows n sets ≡ 0
behind index f fs rows n [] h = refl
behind index f fs rows n (set ∷ sets) h =
    let first = other-set index f fs rows n set sets (ne_eqb n index (λ e. omega (arith, e, h))) in
    let rest = behind index f fs rows (n + 1) sets (omega (arith, h)) in
    omega (arith, first, rest)

-- the set at a place
abbrev set_at : List (List ℕ) → ℕ → List ℕ
set_at sets place = slice_index_or sets place []

weight-at : (index : ℕ) (f : ResultRow → ℕ) (fs : List AggregateFunction) (rows : List Record) (n : ℕ) (sets : List (List ℕ)) (place : ℕ) → place < length sets → index ≡ n + place
    → weight_from index f fs rows n sets ≡ sum_by (λ key. f (index, group_summary fs key (members (set_at sets place) key rows))) (keys (set_at sets place) rows)
weight-at index f fs rows n [] place few e = absurd (omega (arith, few))
weight-at index f fs rows n (set ∷ sets) zero few e =
    let same : n ≡ index = omega (arith, e) in
    let this : (n == index) ≡ true = grind (arith, nat_tests) in
    let first = this-set index f fs rows n set sets this in
    let none = behind index f fs rows (n + 1) sets (omega (arith, e)) in
    let moved = ap (λ m. sum_by (λ key. f (m, group_summary fs key (members set key rows))) (keys set rows)) same in
    omega (arith, first, none, moved)
weight-at index f fs rows n (set ∷ sets) (suc place) few e =
    let first = other-set index f fs rows n set sets (ne_eqb n index (λ same. omega (arith, same, e))) in
    let rest = weight-at index f fs rows (n + 1) sets place (omega (arith, few)) (omega (arith, e)) in
    omega (arith, first, rest)

-- Each record is a member of one group of a set, and the numbers of members of its groups add up to
-- that of the records.
pub record AreParted : Type 0 where
  pub members : (set : List ℕ) (rows : List Record) → SameBag (flat_map (λ key. members set key rows) (keys set rows)) rows
  pub lines : (set : List ℕ) (fs : List AggregateFunction) (rows : List Record) → sum_by (λ group. group.lines) (group_summaries set fs rows) ≡ length rows

pub each-record-once : AreParted → (plan : PlannedQuery) (rows : List Record) (given : List ResultRow) → SameBag given (rows_before_having plan.fields plan.query rows)
    → HasEachRecordOnce plan given rows
each-record-once parted plan rows given same =
    let all = kept_records plan.fields plan.query rows in
    let fs = aggregate_functions plan.fields plan.query in
    let sets = sets_of plan.fields plan.query in
    let of_rows : (f : ResultRow → ℕ) (index : ℕ) → index < length sets
    → sum_by f (rows_of_set index given) ≡ sum_by (λ key. f (index, group_summary fs key (members (set_at sets index) key all))) (keys (set_at sets index) all)
    = λ f index few. sum_by-filter f (λ row. row.0 == index) given ∙ same (of_set index f) ∙ weight-at index f fs all 0 sets index few (omega arith) in
    record {
      lines = λ index few.
          of_rows (λ row. row.1.lines) index few
          ∙ sym (sum_by-map (λ group. group.lines) (λ key. group_summary fs key (members (set_at sets index) key all)) (keys (set_at sets index) all))
          ∙ parted.lines (set_at sets index) fs all;
      members = λ index few weight.
          sum_by-flat_map weight (members_of_row plan rows) (rows_of_set index given)
          ∙ of_rows (λ row. sum_by weight (members_of_row plan rows row)) index few
          ∙ sym (sum_by-flat_map weight (λ key. members (set_at sets index) key all) (keys (set_at sets index) all))
          ∙ parted.members (set_at sets index) all weight;
    }
