use Rattle.std.proofs.Common.{◌≡◌, List, map, ap, sym, subst, ◌∙◌, refl}
use Rattle.std.proofs.lemmas.Result.{IfOk-weaker}
use Rattle.semantics.specs.Aggregates.{AggregateFunction}
use Rattle.group_tables.specs.Functions.{aggregate_of}
use Rattle.group_tables.specs.Table.{IsTableOf}
use Rattle.semantics.specs.Sets.{grouping_places}
use Rattle.semantics.specs.Conditions.{kept_records}
use Rattle.semantics.specs.ResultRows.{aggregate_functions}
use Rattle.tables.specs.Functions.{filter_tests}
use Rattle.tables.specs.Pieces.{records_of}
use Rattle.tables.specs.Inside.Sets.{AreGroupsOfSet}
use Rattle.tables.specs.States.{PartialState}
use Rattle.tables.proofs.Bound.{bound-functions}
use Rattle.tables.proofs.Sound.{counted-few}
use Rattle.tables.specs.Notes.{notes_in}
use Rattle.tables.proofs.Standing.{has-from}
use Rattle.tables.proofs.partial.Partial.roll.Goals as goal

pub roll-requires-clause-few : goal.roll-requires-clause-few
roll-requires-clause-few c =
    let self = c.self.inside in
    counted-few self.shape.functions.items c.set_functions.result.now self.lines self.table
    (ap (λ (v : PartialState). v.functions) c.self.view_is ∙ c.requires.sound.functions ∙ sym c.set_functions.ensures.functions) self.few self.within

pub returns-clause-groups : goal.returns-clause-groups
returns-clause-groups c = IfOk-weaker c.finish.result _ _ (λ (groups : _) given pieces s.
    let plan = c.args.plan.now in
    let self = c.self.inside in
    let filters = filter_tests plan in
    let rows = kept_records plan.fields plan.query (records_of plan.fields pieces) in
    let p = has-from plan _ (notes_in c.self.inside.notes) pieces refl (c.self.view_is ∙ s) in
    let bound_are : map (aggregate_of filters) c.set_functions.result.now ≡ aggregate_functions plan.fields plan.query = ap (map (aggregate_of filters)) c.set_functions.ensures.functions ∙ bound-functions plan in
    let finest = subst (λ grouping. IsTableOf grouping (map (aggregate_of filters) c.set_functions.result.now) self.table rows) (sym c.grouping.ensures.grouping)
    (subst (λ (fs : List AggregateFunction). IsTableOf (grouping_places plan.fields plan.query) fs self.table rows) (sym bound_are) p.table) in
    subst (λ (fs : List AggregateFunction). AreGroupsOfSet c.args.set.now fs groups.items rows) bound_are
    (given c.args.set.now (map (aggregate_of filters) c.set_functions.result.now) rows (c.in_ok-table.ensures.rolled filters rows finest))) c.finish.ensures.groups
