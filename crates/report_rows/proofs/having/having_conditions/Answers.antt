use Rattle.std.proofs.Common.{◌≡◌, ◌∙◌, ◌<◌, ◌≤◌, ℕ, Some, List, [], ap, arith, get_or, length, subst, sym, take, take_all}
use Rattle.std.specs.Global.{Vec}
use Rattle.std.specs.List.{AllZip}
use Rattle.std.specs.Option.{option_map}
use Rattle.std.proofs.lemmas.List.{get_or-map, length-map}
use Rattle.query_ast.specs.Syntax.{predicate_form}
use Rattle.query_resolve.specs.Resolution.{contents}
use Rattle.semantics.specs.Sets.{sets_of}
use Rattle.semantics.specs.Syntax.{Query}
use Rattle.report_rows.specs.Inside.Having.{IsHavingFor}
use Rattle.report_rows.proofs.Keeping.{having-typed, is-typed}
use Rattle.report_rows.proofs.RowScope.{bound-having, zip-next}
use Rattle.report_rows.proofs.having.having_conditions.Goals as goal

pub invariant_of-bind : goal.invariant_of-bind
invariant_of-bind c = record { few = (is-typed c.args.plan.now.fields c.args.plan.now.query c.query-query.ensures.typed).few_functions }

pub loop-set-preserved : goal.loop-set-preserved
loop-set-preserved c =
    let plan = c.args.plan.now in
    let p = predicate_form c.in-Some.having in
    let written : plan.query.having_condition ≡ Some p =
    ap (λ (f : Query). f.having_condition) (sym (c.tree.ensures.form ∙ c.query-query.ensures.query)) ∙ ap (option_map predicate_form) c.in-Some.is in
    let sets = c.sets-set-items.result.now in
    let i = c.loop-set.set-index in
    let n = length-map sets (λ (s : Vec ℕ). s.items) in
    let test = c.loop-set-test.true in
    let below : i < length (contents sets) = omega (arith, test, n) in
    let is : c.deref.result.now ≡ get_or (contents sets) i [] = c.deref.ensures.value ∙ ap (λ (s : Vec ℕ). s.items) c.set-item.is ∙ sym (get_or-map (λ (s : Vec ℕ). s.items) sets i c.set-item.result [] test) in
    let bound : IsHavingFor plan c.deref.result.now c.in_ok-bind.field-0 =
    bound-having plan c.deref.result.now p c.in_ok-bind.field-0 written (having-typed plan.fields plan.query p c.query-query.ensures.typed written) c.in_ok-bind.ensures.value c.in_ok-bind.ensures.safe in
    zip-next (IsHavingFor plan) (contents sets) c.loop-set.conditions.items c.push.new.self.items i [] c.in_ok-bind.field-0 below c.in_ok-push.ensures.items c.loop-set.invariant
    (subst (λ (set : List ℕ). IsHavingFor plan set c.in_ok-bind.field-0) is bound)

pub returns : goal.returns
returns c =
    let plan = c.args.plan.now in
    let sets = c.sets-set-items.result.now in
    let i = c.loop-set.set-index in
    let n = length-map sets (λ (s : Vec ℕ). s.items) in
    let test = c.loop-set-test.false in
    let end : length (contents sets) ≤ i = omega (arith, test, n) in
    let all : take i (contents sets) ≡ sets_of plan.fields plan.query = take_all i (contents sets) end ∙ c.sets-set-items.ensures.sets in
    subst (λ (s : List (List ℕ)). AllZip (IsHavingFor plan) s c.loop-set.conditions.items) all c.loop-set.invariant
