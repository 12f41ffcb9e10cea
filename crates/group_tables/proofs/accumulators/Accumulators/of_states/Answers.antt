use Rattle.std.proofs.Common.{◌≡◌, ◌⊎◌, inl, inr, ◌∷◌, ◌++◌, List, length, map, ap, sym, subst, arith, ◌∙◌}
use Rattle.values.specs.GroupStates.{states_of}
use Rattle.group_tables.specs.Accumulator.{AccumulatorState}
use Rattle.group_tables.specs.Inside.Accumulator.{state_in}
use Rattle.group_tables.specs.Inside.Entries.{kept_states}
use Rattle.group_tables.specs.Inside.Group.{IsSound}
use Rattle.group_tables.proofs.Plain.{kept-end, kept-more, within-kept_states}
use Rattle.group_tables.proofs.accumulators.Accumulators.of_states.Goals as goal

pub loop-function-preserved : goal.loop-function-preserved
loop-function-preserved c =
    let steps = c.in-Some.ensures.steps in
    let rest = c.next.new.self in
    let done = c.loop-function.parts.items in
    ap (λ parts. map state_in parts ++ kept_states rest.a.rest.now (states_of rest.b.rest.items)) c.in_ok-push.ensures.items
    ∙ kept-more done c.in_ok-of_state.field-0 c.in-Some.function.now c.in-Some.state rest.a.rest.now rest.b.rest.items c.in_ok-of_state.ensures
    ∙ ap (λ fs. map state_in done ++ kept_states fs (states_of (c.in-Some.state ∷ rest.b.rest.items))) (sym steps.0)
    ∙ ap (λ ss. map state_in done ++ kept_states c.loop-function.function-iterator.a.rest.now (states_of ss)) (sym steps.1.0)
    ∙ c.loop-function.invariant

-- what is kept once no function or no state is left
all-kept : (c : goal.After-drop-function-iterator-2) → map state_in c.loop-function.parts.items ≡ kept_states c.args.functions.now (states_of c.args.states.items)
all-kept c =
    let left = c.loop-function.function-iterator in
    let end : (length left.a.rest.now ≡ 0) ⊎ (length left.b.rest.items ≡ 0) = elim c.in-None.ensures.steps [
      | inl x ↦ inl x.1.0
      | inr x ↦ inr (let n = x.1.0 in omega (arith, n, left.b.rest.ok))
    ] in
    kept-end c.loop-function.parts.items left.a.rest.now left.b.rest.items (kept_states c.args.functions.now (states_of c.args.states.items)) end c.loop-function.invariant

pub invariant_of-result : goal.invariant_of-result
invariant_of-result c =
    subst (λ (ks : List AccumulatorState). IsSound c.args.members ks) (sym (all-kept c)) (within-kept_states c.args.functions.now c.args.members (states_of c.args.states.items) c.requires)

pub returns-clause-parts : goal.returns-clause-parts
returns-clause-parts c = all-kept c
