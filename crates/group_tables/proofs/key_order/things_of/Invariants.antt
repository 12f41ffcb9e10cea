use Rattle.std.proofs.Common.{◌≡◌, ◌++◌, map}
use Rattle.group_tables.proofs.key_order.things_of.Given as goal

-- the things so far, and then those that are left
abbrev pub invariant-loop-thing : goal.invariant-loop-thing
invariant-loop-thing g l = l.things.items ++ map (λ k. k.thing) l.thing-iterator.rest.items ≡ map (λ k. k.thing) l.fn.keyed.items
