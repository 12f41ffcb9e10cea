use Rattle.std.proofs.Common.{◌≡◌, ◌++◌, [], append-nil, arith, ap, map, sym, ◌∙◌}
use Rattle.group_tables.proofs.Walks.{none_left}
use Rattle.group_tables.proofs.key_order.things_of.Goals as goal

pub returns : goal.returns
returns g c =
    let rest = c.loop-thing.thing-iterator.rest in
    let left : rest.items ≡ [] = none_left rest.items (let n = c.in-None.ensures.steps.0 in omega (arith, n, rest.ok)) in
    sym (append-nil c.loop-thing.things.items)
    ∙ ap (λ ks. c.loop-thing.things.items ++ map (λ k. k.thing) ks) (sym left)
    ∙ c.loop-thing.invariant
