use Rattle.std.proofs.Common.{◌∙◌, List, map, ap}
use Rattle.semantics.specs.Values.{Datum}
use Rattle.values.specs.Datum.{data_of}
use Rattle.query_resolve.specs.Functions.{filters_of}
use Rattle.semantics.specs.Syntax.{Predicate}
use Rattle.semantics.specs.Conditions.{passes}
use Rattle.query_plan.proofs.Filtering.{marks_are, on_ok_more}
use Rattle.query_plan.proofs.plan.Plan.mark_filters.Goals as goal

pub returns : goal.returns
returns c =
    let fields = c.args.self.now.fields in
    let filters = filters_of fields c.args.self.now.query in
    let values = data_of c.values.result.now in
    record {
      marks = on_ok_more c.mark_conditions.result c.mark_conditions.new.marks.items _ (map (λ (p : Predicate). passes fields p c.args.record.now) filters) c.mark_conditions.ensures
          (marks_are fields values filters c.conditions.result.now (c.conditions.ensures.worth values)
          ∙ ap (λ (row : List Datum). map (λ (p : Predicate). passes fields p row) filters) c.values.ensures.values);
    }
