use Rattle.std.proofs.Common.{◌≡◌, [], Bool, List, map, ap, subst, ◌∙◌}
use Rattle.std.proofs.lemmas.Result.{IfOk-weaker}
use Rattle.semantics.specs.Aggregates.{AggregateFunction}
use Rattle.group_tables.specs.Functions.{aggregate_of}
use Rattle.group_tables.specs.Table.{Contents, IsTableOf}
use Rattle.semantics.specs.Groups.{Record}
use Rattle.semantics.specs.Sets.{grouping_places}
use Rattle.semantics.specs.ResultRows.{aggregate_functions}
use Rattle.tables.specs.Functions.{filter_tests}
use Rattle.tables.proofs.Bound.{bound-functions}
use Rattle.tables.proofs.fold.piece_table.Goals as goal

pub returns : goal.returns
returns g c =
    let plan = c.args.plan.now in
    let fs = aggregate_functions plan.fields plan.query in
    let filters = filter_tests plan in
    let bound_are : map (aggregate_of filters) c.set_functions.result.now ≡ fs = ap (map (aggregate_of filters)) c.set_functions.ensures.functions ∙ bound-functions plan in
    IfOk-weaker c.new.result (λ (t : Contents). (filters : List (Record → Bool)) → IsTableOf c.grouping.result.now (map (aggregate_of filters) c.set_functions.result.now) t []) (λ (t : Contents). IsTableOf (grouping_places plan.fields plan.query) fs t [])
    (λ t held. subst (λ (gs : List AggregateFunction). IsTableOf (grouping_places plan.fields plan.query) gs t []) bound_are
    (subst (λ set. IsTableOf set (map (aggregate_of filters) c.set_functions.result.now) t []) c.grouping.ensures.grouping (held filters)))
    c.new.ensures.empty
