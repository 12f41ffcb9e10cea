use Rattle.std.proofs.Common.{map, ap, refl, ◌∙◌}
use Rattle.semantics.specs.Truth.{disjunction}
use Rattle.values.specs.Datum.{datum_of}
use Rattle.values.specs.declared.value.Value.{Value}
use Rattle.semantics.specs.declared.comparison.Op.TheVariants.{Eq}
use Rattle.semantics.specs.Values.{comparison}
use Rattle.query_eval.proofs.Truths.{settled-true}
use Rattle.query_eval.proofs.condition.member_truth.Goals as goal

pub returns-then-is : goal.returns-then-is
returns-then-is c =
    let x = datum_of c.args.value.now in
    settled-true (λ (other : Value). comparison Eq x (datum_of other)) (λ others. map (comparison Eq x) (map datum_of others)) (λ other others. refl)
    c.loop-other.found c.or-found.result _ c.args.values.now c.loop-other.other-index c.other-item.result c.loop-other-test.true c.other-item.is
    (c.or-found.ensures.table ∙ ap (λ t. disjunction c.loop-other.found t) c.compare.ensures.value) (c.is.ensures.same.0 c.if-is.true) c.loop-other.invariant.told
