use Rattle.std.proofs.Common.{◌∙◌, ap}
use Rattle.semantics.specs.declared.truth.Truth.TheVariants.{True}
use Rattle.values.specs.Datum.{data_of}
use Rattle.query_eval.specs.declared.condition.Condition.{Condition}
use Rattle.query_eval.specs.Meaning.{condition_truth}
use Rattle.semantics.specs.Conditions.{same_truth}
use Rattle.query_eval.proofs.FilterConditions.{all_told, next_safe, next_told}
use Rattle.query_eval.proofs.filter_clause.mark_conditions.Goals as goal

pub truth-requires : goal.truth-requires
truth-requires c = (next_safe c.args.conditions.now c.loop-condition.condition-index c.condition-item.result (data_of c.args.values.now) c.loop-condition-test.true c.condition-item.is c.loop-condition.invariant.safe).0

pub loop-condition-preserved : goal.loop-condition-preserved
loop-condition-preserved c =
    let all = c.args.conditions.now in
    let i = c.loop-condition.condition-index in
    let values = data_of c.args.values.now in
    record {
      told = next_told (λ (d : Condition). same_truth (condition_truth d values) True) c.loop-condition.marks.items c.push.new.self.items all i c.condition-item.result c.is_true.result
          c.loop-condition-test.true c.condition-item.is (c.is_true.ensures ∙ ap (λ t. same_truth t True) c.truth.ensures) c.in_ok-push.ensures.items
          ∙ c.loop-condition.invariant.told;
      safe = (next_safe all i c.condition-item.result values c.loop-condition-test.true c.condition-item.is c.loop-condition.invariant.safe).1;
    }

pub returns : goal.returns
returns c = all_told (λ (d : Condition). same_truth (condition_truth d (data_of c.args.values.now)) True) c.loop-condition.marks.items c.args.conditions.now c.loop-condition.condition-index c.loop-condition-test.false c.loop-condition.invariant.told
