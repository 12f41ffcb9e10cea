use Rattle.std.proofs.Common.{◌≡◌, [], ◌∷◌, ap, sym, arith, ◌∙◌}
use Rattle.std.specs.FinSet as set
use Rattle.values.specs.Datum.{data_of, datum_of}
use Rattle.group_tables.specs.Values.{Values, set_of}
use Rattle.group_tables.specs.Inside.Values.{values_in}
use Rattle.group_tables.specs.Inside.ValueSets.{shown}
use Rattle.group_tables.proofs.Sets.{moved, union-empty, union-flip}
use Rattle.group_tables.proofs.Walks.{none_left}
use Rattle.group_tables.proofs.distinct_values.DistinctValues.of_values.Goals as goal

pub loop-value-init : goal.loop-value-init
loop-value-init c =
    let left = values_in c.into_iter-value-iterator.result.rest.items in
    union-flip (set_of []) left
    ∙ union-empty left
    ∙ ap values_in c.into_iter-value-iterator.ensures.into_iter_gives.0

pub loop-value-preserved : goal.loop-value-preserved
loop-value-preserved c =
    let rest = c.next.new.self.rest.items in
    let value = c.in-Some.value in
    let so_far = shown c.loop-value.set in
    let is : c.loop-value.value-iterator.rest.items ≡ value ∷ rest = c.in-Some.ensures.steps.0 in
    ap (λ (s : Values). set.union s (values_in rest)) c.in_ok-insert.ensures
    ∙ moved so_far (datum_of value) (data_of rest)
    ∙ ap (λ vs. set.union so_far (values_in vs)) (sym is)
    ∙ c.loop-value.invariant

pub returns : goal.returns
returns c =
    let all = shown c.loop-value.set in
    let rest = c.loop-value.value-iterator.rest in
    let left : rest.items ≡ [] = none_left rest.items (let n = c.in-None.ensures.steps.0 in omega (arith, n, rest.ok)) in
    sym (union-empty all)
    ∙ ap (λ vs. set.union all (values_in vs)) (sym left)
    ∙ c.loop-value.invariant
