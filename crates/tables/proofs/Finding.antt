-- The rows of the groups of all grouping sets.
use Rattle.std.proofs.Common.{◌≡◌, ◌+◌, ℕ, List, [], ◌∷◌, map, Vec, Global, refl, sym, ap, ◌∙◌, sum_by, arith}
use Rattle.std.proofs.lemmas.List.Sums.{sum_by-append}
use Rattle.std.proofs.lemmas.List.{map-append}
use Rattle.std.specs.List.{AllZip, enumerate_from, flat_map}
use Rattle.semantics.specs.Aggregates.{AggregateFunction}
use Rattle.group_tables.specs.declared.group.Group.{Group}
use Rattle.semantics.specs.Groups.{Record, SetGroup, keys, members}
use Rattle.semantics.specs.ResultRows.{group_summary, ResultRow, rows_of_groups, row_of_group}
use Rattle.group_tables.specs.GroupSummaries.{group_summaries, group_summary_in}
use Rattle.group_tables.specs.Bags.{SameBag}
use Rattle.group_tables.specs.GroupRows.{rows_from}
use Rattle.group_tables.proofs.Bags.{sum_by-map}
use Rattle.tables.specs.Inside.Sets.{AreGroupsOfSet}

-- the groups of one grouping set, whose index in the list of sets is this one
abbrev pub set_groups : List Record → ℕ × List ℕ → List SetGroup
set_groups rows s = map (λ key. record { index = s.0; key = key; members = members s.1 key rows }) (keys s.1 rows)

-- the rows of one grouping set weigh what the summaries of its groups weigh, beside the index of
-- the set
sum-of_set : (f : ResultRow → ℕ) (n : ℕ) (set : List ℕ) (fs : List AggregateFunction) (rows : List Record)
    → sum_by f (map (row_of_group fs) (set_groups rows (n, set))) ≡ sum_by (λ r. f (n, r)) (group_summaries set fs rows)
sum-of_set f n set fs rows =
    sum_by-map f (row_of_group fs) (set_groups rows (n, set))
    ∙ sum_by-map (λ g. f (row_of_group fs g)) (λ key. record { index = n; key = key; members = members set key rows }) (keys set rows)
    ∙ sym (sum_by-map (λ r. f (n, r)) (λ key. group_summary fs key (members set key rows)) (keys set rows))

one-set : (f : ResultRow → ℕ) (n : ℕ) (set : List ℕ) (fs : List AggregateFunction) (gs : List Group) (rows : List Record) → SameBag (map group_summary_in gs) (group_summaries set fs rows)
    → sum_by f (map (λ g. (n, group_summary_in g)) gs) ≡ sum_by f (map (row_of_group fs) (set_groups rows (n, set)))
one-set f n set fs gs rows same =
    sum_by-map f (λ g. (n, group_summary_in g)) gs
    ∙ sym (sum_by-map (λ r. f (n, r)) group_summary_in gs)
    ∙ same (λ r. f (n, r))
    ∙ sym (sum-of_set f n set fs rows)

-- for each set of a list there are its groups of the records
abbrev pub AreGroupsOfRecords : List AggregateFunction → List Record → List (List ℕ) → List (Vec Group Global) → Type 0
AreGroupsOfRecords fs rows sets groups = AllZip (λ set (of_set : Vec Group Global). AreGroupsOfSet set fs of_set.items rows) sets groups

found-from : (f : ResultRow → ℕ) (n : ℕ) (sets : List (List ℕ)) (fs : List AggregateFunction) (groups : List (Vec Group Global)) (rows : List Record) → AreGroupsOfRecords fs rows sets groups
    → sum_by f (rows_from n groups) ≡ sum_by f (map (row_of_group fs) (flat_map (set_groups rows) (enumerate_from n sets)))
found-from f n [] fs [] rows h = refl
found-from f n [] fs (g ∷ groups) rows h = absurd h
found-from f n (s ∷ sets) fs [] rows h = absurd h
found-from f n (s ∷ sets) fs (g ∷ groups) rows h =
    let front = map (λ x. (n, group_summary_in x)) g.items in
    let a = sum_by-append f front (rows_from (n + 1) groups) in
    let b = one-set f n s fs g.items rows h.0 in
    let c = found-from f (n + 1) sets fs groups rows h.1 in
    let d = ap (sum_by f) (map-append (row_of_group fs) (set_groups rows (n, s)) (flat_map (set_groups rows) (enumerate_from (n + 1) sets)))
    ∙ sum_by-append f (map (row_of_group fs) (set_groups rows (n, s))) (map (row_of_group fs) (flat_map (set_groups rows) (enumerate_from (n + 1) sets))) in
    omega (arith, a, b, c, d)

-- the rows of the groups of each set are those of all groups
pub all-found : (sets : List (List ℕ)) (fs : List AggregateFunction) (groups : List (Vec Group Global)) (rows : List Record) → AreGroupsOfRecords fs rows sets groups
    → SameBag (rows_from 0 groups) (rows_of_groups sets fs rows)
all-found sets fs groups rows h = λ f. found-from f 0 sets fs groups rows h

-- ---- the rows of two lists of records

-- what the rows of a front set and of those behind it weigh
sum-of_sets : (f : ResultRow → ℕ) (fs : List AggregateFunction) (rows : List Record) (n : ℕ) (set : List ℕ) (sets : List (List ℕ))
    → sum_by f (map (row_of_group fs) (flat_map (set_groups rows) (enumerate_from n (set ∷ sets))))
    ≡ sum_by (λ r. f (n, r)) (group_summaries set fs rows) + sum_by f (map (row_of_group fs) (flat_map (set_groups rows) (enumerate_from (n + 1) sets)))
sum-of_sets f fs rows n set sets =
    let rest = flat_map (set_groups rows) (enumerate_from (n + 1) sets) in
    let a = ap (sum_by f) (map-append (row_of_group fs) (set_groups rows (n, set)) rest) ∙ sum_by-append f (map (row_of_group fs) (set_groups rows (n, set))) (map (row_of_group fs) rest) in
    let b = sum-of_set f n set fs rows in
    omega (arith, a, b)

same-from : (f : ResultRow → ℕ) (fs : List AggregateFunction) (rows others : List Record) → ((set : List ℕ) → SameBag (group_summaries set fs rows) (group_summaries set fs others))
    → (n : ℕ) (sets : List (List ℕ))
    → sum_by f (map (row_of_group fs) (flat_map (set_groups rows) (enumerate_from n sets))) ≡ sum_by f (map (row_of_group fs) (flat_map (set_groups others) (enumerate_from n sets)))
same-from f fs rows others same n [] = refl
same-from f fs rows others same n (set ∷ sets) =
    let a = sum-of_sets f fs rows n set sets in
    let b = sum-of_sets f fs others n set sets in
    let c = same set (λ r. f (n, r)) in
    let d = same-from f fs rows others same (n + 1) sets in
    omega (arith, a, b, c, d)

-- where under each set the summaries of the groups of two lists of records are the same, so are the
-- rows of all groups
pub found-same : (fs : List AggregateFunction) (rows others : List Record) → ((set : List ℕ) → SameBag (group_summaries set fs rows) (group_summaries set fs others))
    → (sets : List (List ℕ)) → SameBag (rows_of_groups sets fs rows) (rows_of_groups sets fs others)
found-same fs rows others same sets = λ f. same-from f fs rows others same 0 sets
