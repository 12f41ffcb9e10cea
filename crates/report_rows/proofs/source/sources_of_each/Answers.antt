use Rattle.std.proofs.Common.{◌≡◌, ◌∙◌, ◌+◌, ◌<◌, ◌≤◌, ℕ, List, [], length, get_or, take, take_all, ap, subst, sym, arith}
use Rattle.std.specs.Global.{Vec}
use Rattle.std.proofs.lemmas.List.{get_or-map, length-map}
use Rattle.query_resolve.specs.Resolution.{contents}
use Rattle.semantics.specs.Sets.{sets_of}
use Rattle.report_rows.specs.declared.source.ValueSource.{ValueSource}
use Rattle.report_rows.specs.Inside.Sources.{AreSourcesFor, expression_forms}
use Rattle.report_rows.specs.Sources.{ForEachSet}
use Rattle.report_rows.proofs.Sources.{each-next}
use Rattle.report_rows.proofs.source.sources_of_each.Goals as goal

pub loop-set-preserved : goal.loop-set-preserved
loop-set-preserved c =
    let plan = c.args.plan.now in
    let Are = AreSourcesFor plan (expression_forms c.args.expressions.now) in
    let sets = c.sets-set-items.result.now in
    let i = c.loop-set.set-index in
    let sources = c.in_ok-sources_of.field-0 in
    let n = length-map sets (λ (s : Vec ℕ). s.items) in
    let test = c.loop-set-test.true in
    let below : i < length (contents sets) = omega (arith, test, n) in
    let is : c.deref.result.now ≡ get_or (contents sets) i [] = c.deref.ensures.value ∙ ap (λ (s : Vec ℕ). s.items) c.set-item.is ∙ sym (get_or-map (λ (s : Vec ℕ). s.items) sets i c.set-item.result [] test) in
    let of : Are (get_or (contents sets) i []) sources.items = subst (λ (set : List ℕ). Are set sources.items) is c.in_ok-sources_of.ensures in
    subst (λ (all : List (Vec ValueSource)). ForEachSet Are (take (i + 1) (contents sets)) all) (sym c.in_ok-push.ensures.items) (each-next Are (contents sets) c.loop-set.all.items i sources below c.loop-set.invariant of)

pub returns : goal.returns
returns c =
    let plan = c.args.plan.now in
    let sets = c.sets-set-items.result.now in
    let i = c.loop-set.set-index in
    let n = length-map sets (λ (s : Vec ℕ). s.items) in
    let test = c.loop-set-test.false in
    let end : length (contents sets) ≤ i = omega (arith, test, n) in
    let all : take i (contents sets) ≡ sets_of plan.fields plan.query = take_all i (contents sets) end ∙ c.sets-set-items.ensures.sets in
    subst (λ (s : List (List ℕ)). ForEachSet (AreSourcesFor plan (expression_forms c.args.expressions.now)) s c.loop-set.all.items) all c.loop-set.invariant
