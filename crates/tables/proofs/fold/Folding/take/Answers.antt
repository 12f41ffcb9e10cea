use Rattle.std.proofs.Common.{◌≡◌, ◌++◌, ◌∷◌, [], true, List, cond, map, rules, sym, ap, subst, ◌∙◌}
use Rattle.semantics.specs.Aggregates.{AggregateFunction}
use Rattle.group_tables.specs.Functions.{aggregate_of}
use Rattle.group_tables.specs.Rows.{IsNarrowRow}
use Rattle.semantics.specs.Groups.{Record}
use Rattle.group_tables.specs.Table.{IsTableOf}
use Rattle.values.specs.Datum.{data_of}
use Rattle.query_resolve.specs.Functions.{filters_of}
use Rattle.semantics.specs.Sets.{grouping_places}
use Rattle.semantics.specs.Conditions.{is_kept, kept_records}
use Rattle.semantics.specs.ResultRows.{aggregate_functions}
use Rattle.tables.specs.Functions.{filter_tests}
use Rattle.tables.proofs.Bound.{bound-functions, marks-kept}
use Rattle.tables.proofs.Narrow.{narrow-from_fits}
use Rattle.tables.specs.Laws.{kept-append}
use Rattle.tables.proofs.fold.Folding.take.Goals as goal

pub add-requires-clause-narrow : goal.add-requires-clause-narrow
add-requires-clause-narrow c = subst IsNarrowRow (sym c.values.ensures.values) (narrow-from_fits c.args.plan.now.fields c.args.taken.now c.requires.fits)

pub returns-in_ok-add-clause-table : goal.returns-in_ok-add-clause-table
returns-in_ok-add-clause-table c = λ rows given.
    let plan = c.args.plan.now in
    let grouping = grouping_places plan.fields plan.query in
    let fs = aggregate_functions plan.fields plan.query in
    let filters = filter_tests plan in
    let row = c.args.taken.now in
    let before = kept_records plan.fields plan.query rows in
    let new = c.add.new.self in
    let is : is_kept plan.fields plan.query row ≡ true = search rules in
    let all : kept_records plan.fields plan.query (rows ++ row ∷ []) ≡ before ++ row ∷ [] = kept-append plan rows (row ∷ []) ∙ ap (λ b. before ++ cond b (row ∷ []) []) is in
    let marks : c.as_slice.result.now ≡ map (λ keeps. keeps (data_of c.values.result.now)) filters =
    c.as_slice.ensures.value ∙ c.in_ok-mark_filters.ensures.marks ∙ marks-kept plan.fields (filters_of plan.fields plan.query) row
    ∙ ap (λ (r : Record). map (λ keeps. keeps r) filters) (sym c.values.ensures.values) in
    let bound_are : map (aggregate_of filters) c.set_functions.result.now ≡ fs = ap (map (aggregate_of filters)) c.set_functions.ensures.functions ∙ bound-functions plan in
    let old : IsTableOf c.grouping.result.now (map (aggregate_of filters) c.set_functions.result.now) c.args.self.now.table before =
    subst (λ set. IsTableOf set (map (aggregate_of filters) c.set_functions.result.now) c.args.self.now.table before) (sym c.grouping.ensures.grouping)
    (subst (λ (gs : List AggregateFunction). IsTableOf grouping gs c.args.self.now.table before) (sym bound_are) given) in
    let added = c.in_ok-add.ensures.added filters before marks old in
    subst (λ (rs : List Record). IsTableOf grouping fs new rs) (sym all)
    (subst (λ r. IsTableOf grouping fs new (before ++ r ∷ [])) c.values.ensures.values
    (subst (λ (gs : List AggregateFunction). IsTableOf grouping gs new (before ++ data_of c.values.result.now ∷ [])) bound_are
    (subst (λ set. IsTableOf set (map (aggregate_of filters) c.set_functions.result.now) new (before ++ data_of c.values.result.now ∷ [])) c.grouping.ensures.grouping added)))
