-- The groups of records have the shape that a query asks of its groups.
use Rattle.std.proofs.Common.{◌≡◌, ℕ, List, [], ◌∷◌, length, map, Option, Some, None, Bool, refl, sym, subst, ◌∙◌}
use Rattle.std.proofs.lemmas.List.{length-map}
use Rattle.std.specs.List.{AllByRecursion, AllZip}
use Rattle.std.specs.Prelude.{option_map}
use Rattle.semantics.specs.GroupStates.{entries_over, entry_over, function_state, state_by}
use Rattle.part_lines.specs.Groups.{HasKind, HasShape, HaveShape}
use Rattle.query_resolve.specs.Functions.{indexed_functions}
use Rattle.query_resolve.specs.declared.function.FilteredFunction.{FilteredFunction}
use Rattle.semantics.specs.Aggregates.{AggregateFunction}
use Rattle.semantics.specs.Columns.{Field}
use Rattle.semantics.specs.ResultRows.{aggregate_functions}
use Rattle.semantics.specs.Groups.{Key, Record, key_order, keys, members, project, same_key, value_at}
use Rattle.semantics.specs.Lists.{sorted_by}
use Rattle.semantics.specs.Sets.{grouping_places}
use Rattle.semantics.specs.Syntax.{Query}
use Rattle.semantics.specs.declared.function.ColumnFunction.{ColumnFunction}
use Rattle.semantics.specs.declared.function.ColumnFunction.TheVariants as function
use Rattle.tables.proofs.Bags.{all-distinct, all-everywhere, all-map}
use Rattle.tables.proofs.Bound.{bound-functions}
use Rattle.query_plan.specs.Planned.{plan_of}
use Rattle.tables.specs.Functions.{filter_tests}
use Rattle.group_tables.specs.Functions.{aggregates_of, filter_at}
use Rattle.parts.proofs.Lists.{all-ordered, weaker}
use Rattle.parts.specs.ReadingParts.{shape_under, state_kind, state_kind_by, type_at}

-- ---- keys

keys-wide : (set : List ℕ) (rows : List Record) → AllByRecursion (λ (key : Key). length key ≡ length set) (keys set rows)
keys-wide [] rows = (refl, tt)
keys-wide (place ∷ places) rows =
    let wide : Key → Type 0 = λ key. length key ≡ length (place ∷ places) in
    all-distinct wide same_key (map (project (place ∷ places)) rows)
    (all-map wide (project (place ∷ places)) rows (all-everywhere (λ row. wide (project (place ∷ places) row)) rows (λ row. length-map (place ∷ places) (λ p. value_at p row))))

-- ---- states

state-shaped : (fields : List Field) (filters : List (Record → Bool)) (filter : Option ℕ) (f : ColumnFunction) (group : List Record) → HasKind (state_kind_by fields filter f) (state_by (option_map (filter_at filters) filter) f group)
state-shaped fields filters None function.CountRows group = tt
state-shaped fields filters None (function.Count place) group = tt
state-shaped fields filters None (function.CountDistinct place) group = tt
state-shaped fields filters None (function.Sum place) group = tt
state-shaped fields filters None (function.Min place) group = tt
state-shaped fields filters None (function.Max place) group = tt
state-shaped fields filters None (function.Avg place) group = tt
state-shaped fields filters (Some i) function.CountRows group = tt
state-shaped fields filters (Some i) (function.Count place) group = tt
state-shaped fields filters (Some i) (function.CountDistinct place) group = tt
state-shaped fields filters (Some i) (function.Sum place) group = tt
state-shaped fields filters (Some i) (function.Min place) group = tt
state-shaped fields filters (Some i) (function.Max place) group = tt
state-shaped fields filters (Some i) (function.Avg place) group = tt

states-shaped : (fields : List Field) (filters : List (Record → Bool)) (functions : List FilteredFunction) (group : List Record)
    → AllZip HasKind (map (state_kind fields) functions) (map (λ f. function_state f group) (aggregates_of filters functions))
states-shaped fields filters [] group = tt
states-shaped fields filters (f ∷ functions) group = (state-shaped fields filters f.filter f.function group, states-shaped fields filters functions group)

-- ---- groups

pub entries-shaped : (fields : List Field) (q : Query) (records : List Record) → HaveShape (shape_under fields q) (entries_over (grouping_places fields q) (aggregate_functions fields q) records)
entries-shaped fields q records =
    let places = grouping_places fields q in
    let functions = aggregate_functions fields q in
    let states : (key : Key) → AllZip HasKind (map (state_kind fields) (indexed_functions fields q)) (map (λ f. function_state f (members places key records)) functions) =
    λ key.
    subst (λ (fs : List AggregateFunction). AllZip HasKind (map (state_kind fields) (indexed_functions fields q)) (map (λ f. function_state f (members places key records)) fs)) (bound-functions (plan_of fields q))
    (states-shaped fields (filter_tests (plan_of fields q)) (indexed_functions fields q) (members places key records)) in
    let one : (key : Key) → length key ≡ length places → HasShape (shape_under fields q) (entry_over places functions records key) =
    λ key wide. record { key = wide ∙ sym (length-map places (type_at fields)); states = states key } in
    all-map (HasShape (shape_under fields q)) (entry_over places functions records) (sorted_by key_order (keys places records)) (weaker one (sorted_by key_order (keys places records)) (all-ordered key_order (λ key. length key ≡ length places) (keys places records) (keys-wide places records)))
