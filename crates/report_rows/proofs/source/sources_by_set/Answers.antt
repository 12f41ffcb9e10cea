use Rattle.std.proofs.Common.{◌∙◌, ap}
use Rattle.std.proofs.lemmas.Result.{IfOk-weaker}
use Rattle.semantics.specs.Sets.{sets_of}
use Rattle.report_rows.specs.Inside.Sources.{expression_forms}
use Rattle.report_rows.proofs.Sources.{items-each}
use Rattle.report_rows.proofs.source.sources_by_set.Goals as goal

pub returns : goal.returns
returns c =
    let plan = c.args.plan.now in
    IfOk-weaker c.sources_of_each.result _ _
    (λ all each. items-each plan _ (sets_of plan.fields plan.query) all.items (ap expression_forms c.as_slice.ensures.value ∙ c.in_ok-expressions.ensures) each)
    c.sources_of_each.ensures
