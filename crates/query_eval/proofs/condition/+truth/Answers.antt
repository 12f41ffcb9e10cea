use Rattle.std.proofs.Common.{map, ap, refl, ◌∙◌}
use Rattle.values.specs.Datum.{data_of}
use Rattle.semantics.specs.Truth.{conjunction, disjunction}
use Rattle.query_eval.specs.declared.condition.Condition.{Condition}
use Rattle.query_eval.specs.Meaning.{condition_truth}
use Rattle.query_eval.proofs.Truths.{settled-false, settled-true}
use Rattle.query_eval.proofs.condition.+truth.Goals as goal

pub any_truth-returns-then-is : goal.any_truth-returns-then-is
any_truth-returns-then-is t c =
    let values = data_of c.args.values.now in
    settled-true (λ (part : Condition). condition_truth part values) (λ parts. map (λ truth. truth values) (map condition_truth parts)) (λ part parts. refl)
    c.loop-part.found c.or-found.result _ c.args.parts.now c.loop-part.part-index c.part-item.result c.loop-part-test.true c.part-item.is
    (c.or-found.ensures.table ∙ ap (λ t. disjunction c.loop-part.found t) c.truth.ensures) (c.is.ensures.same.0 c.if-is.true) c.loop-part.invariant.told

pub all_truth-returns-then-is : goal.all_truth-returns-then-is
all_truth-returns-then-is t c =
    let values = data_of c.args.values.now in
    settled-false (λ (part : Condition). condition_truth part values) (λ parts. map (λ truth. truth values) (map condition_truth parts)) (λ part parts. refl)
    c.loop-part.found c.and-found.result _ c.args.parts.now c.loop-part.part-index c.part-item.result c.loop-part-test.true c.part-item.is
    (c.and-found.ensures.table ∙ ap (λ t. conjunction c.loop-part.found t) c.truth.ensures) (c.is.ensures.same.0 c.if-is.true) c.loop-part.invariant.told
