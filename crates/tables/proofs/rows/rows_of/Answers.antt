use Rattle.std.proofs.Common.{All, List, ◌≡◌, map, ap, sym, subst, ◌∙◌}
use Rattle.std.proofs.lemmas.Result.{IfOk-weaker}
use Rattle.query_resolve.specs.declared.function.FilteredFunction.{FilteredFunction}
use Rattle.query_resolve.specs.Functions.{indexed_functions}
use Rattle.query_resolve.specs.Resolution.{contents}
use Rattle.semantics.specs.Sets.{grouping_places, sets_of}
use Rattle.semantics.specs.Conditions.{kept_records}
use Rattle.group_tables.specs.Bags.{SameBag}
use Rattle.semantics.specs.Aggregates.{AggregateFunction}
use Rattle.group_tables.specs.Functions.{aggregate_of}
use Rattle.group_tables.specs.Fitting.{AreFitting}
use Rattle.group_tables.specs.Table.{HasFewRecords, IsTableOf}
use Rattle.group_tables.specs.Rolled.{AreAmong}
use Rattle.semantics.specs.ResultRows.{aggregate_functions, rows_before_having}
use Rattle.tables.specs.Functions.{filter_tests}
use Rattle.tables.specs.Inside.Properties.{AreGroupsOf, HasProperty, of_records, of_types}
use Rattle.tables.proofs.Bound.{bound-functions}
use Rattle.tables.proofs.Columns.{functions-columns}
use Rattle.tables.proofs.Finding.{AreGroupsOfRecords, all-found}
use Rattle.tables.proofs.Fitting.{fitting-from_types}
use Rattle.tables.proofs.SetTables.{sets-among}
use Rattle.tables.proofs.rows.rows_of.Goals as goal

pub groups_of_sets-requires-clause-among : goal.groups_of_sets-requires-clause-among
groups_of_sets-requires-clause-among g c =
    let plan = c.args.plan.now in
    subst (λ grouping. All (λ set. AreAmong set grouping) (contents c.sets.result.now)) (sym c.grouping.ensures.grouping)
    (subst (All (λ set. AreAmong set (grouping_places plan.fields plan.query))) (sym c.sets.ensures.sets) (sets-among plan))

pub groups_of_sets-requires-clause-few : goal.groups_of_sets-requires-clause-few
groups_of_sets-requires-clause-few g c =
    subst (λ (fs : List FilteredFunction). HasFewRecords fs c.args.finest) (sym c.set_functions.ensures.functions) c.requires.few

pub returns-clause-rows : goal.returns-clause-rows
returns-clause-rows g c = IfOk-weaker c.flatten_groups.result _ _ (λ rows is records table.
    let plan = c.args.plan.now in
    let fs = aggregate_functions plan.fields plan.query in
    let filters = filter_tests plan in
    let members = kept_records plan.fields plan.query records in
    let groups = c.in_ok-groups.groups.items in
    let bound_are : map (aggregate_of filters) c.set_functions.result.now ≡ fs = ap (map (aggregate_of filters)) c.set_functions.ensures.functions ∙ bound-functions plan in
    let finest = subst (λ grouping. IsTableOf grouping (map (aggregate_of filters) c.set_functions.result.now) c.args.finest members) (sym c.grouping.ensures.grouping)
    (subst (λ (gs : List AggregateFunction). IsTableOf (grouping_places plan.fields plan.query) gs c.args.finest members) (sym bound_are) table) in
    let of_sets : AreGroupsOfRecords fs members (sets_of plan.fields plan.query) groups =
    subst (λ (gs : List AggregateFunction). AreGroupsOfRecords gs members (sets_of plan.fields plan.query) groups) bound_are
    (subst (λ sets. AreGroupsOfRecords (map (aggregate_of filters) c.set_functions.result.now) members sets groups) c.sets.ensures.sets
    (c.in_ok-groups.ensures (of_records filters members) finest)) in
    subst (λ found. SameBag found (rows_before_having plan.fields plan.query records)) (sym is) (all-found (sets_of plan.fields plan.query) fs groups members of_sets)) c.flatten_groups.ensures

pub returns-clause-fit : goal.returns-clause-fit
returns-clause-fit g c = IfOk-weaker c.flatten_groups.result _ _ (λ rows is typed.
    let plan = c.args.plan.now in
    let fs = indexed_functions plan.fields plan.query in
    let types = of_types plan.fields in
    let groups = c.in_ok-groups.groups.items in
    let finest : HasProperty types c.grouping.result.now c.set_functions.result.now c.args.finest =
    subst (λ grouping. HasProperty types grouping c.set_functions.result.now c.args.finest) (sym c.grouping.ensures.grouping)
    (subst (λ (gs : List FilteredFunction). HasProperty types (grouping_places plan.fields plan.query) gs c.args.finest) (sym c.set_functions.ensures.functions)
    (functions-columns plan.fields plan.query, typed)) in
    let of_sets : AreGroupsOf types fs (sets_of plan.fields plan.query) groups =
    subst (λ (gs : List FilteredFunction). AreGroupsOf types gs (sets_of plan.fields plan.query) groups) c.set_functions.ensures.functions
    (subst (λ sets. AreGroupsOf types c.set_functions.result.now sets groups) c.sets.ensures.sets (c.in_ok-groups.ensures types finest)) in
    subst (AreFitting plan.fields plan.query) (sym is) (fitting-from_types plan.fields plan.query groups of_sets)) c.flatten_groups.ensures
