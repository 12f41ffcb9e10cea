-- The groups of the same records in another order.
use Rattle.std.proofs.Common.{ℕ, List, [], map, refl, sym, subst, ◌∙◌}
use Rattle.std.specs.FinMap as fin
use Rattle.std.specs.List.{IsDistinct}
use Rattle.semantics.specs.Groups.{Record, Key, keys, members, project, same_key}
use Rattle.semantics.specs.Aggregates.{AggregateFunction}
use Rattle.group_tables.specs.GroupSummaries.{group_summaries}
use Rattle.semantics.specs.ResultRows.{group_summary}
use Rattle.group_tables.specs.Bags.{SameBag}
use Rattle.group_tables.specs.Table.{group_over, table_of}
use Rattle.group_tables.proofs.AnyOrder.{table-same}
use Rattle.group_tables.proofs.Bags.{bag-filter, sum_by-map}
use Rattle.group_tables.proofs.GroupsLaw.{firsts, keys-distinct, lines-bag, table_of-is}

pub members-same : (set : List ℕ) (key : Key) (rows others : List Record) → SameBag rows others → SameBag (members set key rows) (members set key others)
members-same set key rows others same = bag-filter (λ row. same_key key (project set row)) rows others same

-- the groups of records are those of the same records in another order
pub summaries-same : (set : List ℕ) (fs : List AggregateFunction) (rows others : List Record) → SameBag rows others → SameBag (group_summaries set fs rows) (group_summaries set fs others)
summaries-same set fs rows others same = λ weight.
    let ks = keys set rows in
    let t = table_of set fs rows in
    let is = table_of-is set fs rows in
    let once = subst (λ (xs : List Key). IsDistinct same_key xs) (firsts set fs rows ks) (keys-distinct set rows) in
    sym (lines-bag set fs rows (map (group_over set fs rows) ks) t refl is once weight)
    ∙ lines-bag set fs others (map (group_over set fs rows) ks) t refl (table-same set fs t rows others same is) once weight

-- the keys are those of the groups, whatever is shown of these
pub keys-same : (set : List ℕ) (rows others : List Record) → SameBag rows others → SameBag (keys set rows) (keys set others)
keys-same set rows others same = λ weight.
    sym (sum_by-map (λ group. weight group.key) (λ key. group_summary [] key (members set key rows)) (keys set rows))
    ∙ summaries-same set [] rows others same (λ group. weight group.key)
    ∙ sum_by-map (λ group. weight group.key) (λ key. group_summary [] key (members set key others)) (keys set others)
