use Rattle.std.proofs.Common.{ap, sym, ◌∙◌}
use Rattle.std.proofs.lemmas.Map.Iter.{rest_more, rest_all}
use Rattle.std.specs.FinSet as set
use Rattle.values.specs.Datum.{datum_of, data_of}
use Rattle.values.specs.declared.value.Value.{Value}
use Rattle.group_tables.specs.Values.{Values}
use Rattle.group_tables.specs.Inside.Values.{values_in}
use Rattle.group_tables.specs.Inside.ValueSets.{shown}
use Rattle.group_tables.proofs.Sets.{union-empty, moved}
use Rattle.group_tables.proofs.value_set.ValueSet.insert_each.Goals as goal

pub loop-value-preserved : goal.loop-value-preserved
loop-value-preserved c =
    let rest = c.next.new.self in
    let more = rest_more (λ (x : Value). x) c.loop-value.value-iterator rest c.next.result c.in-Some.value c.in-Some.is c.next.ensures.steps in
    let so_far = shown c.loop-value.self in
    ap (λ (s : Values). set.union s (values_in rest)) c.in_ok-insert.ensures
    ∙ moved so_far (datum_of c.in-Some.value) (data_of rest)
    ∙ ap (λ vs. set.union so_far (values_in vs)) (sym more)
    ∙ c.loop-value.invariant

pub returns : goal.returns
returns c =
    let all = shown c.loop-value.self in
    sym (union-empty all)
    ∙ ap (λ vs. set.union all (values_in vs)) (sym (rest_all (λ (x : Value). x) c.loop-value.value-iterator c.next.new.self c.next.result c.in-None.is c.next.ensures.steps))
    ∙ c.loop-value.invariant
