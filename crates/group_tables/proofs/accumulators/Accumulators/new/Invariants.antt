use Rattle.std.proofs.Common.{◌≡◌, map, take}
use Rattle.group_tables.specs.Inside.Accumulator.{no_state, state_in}
use Rattle.group_tables.proofs.accumulators.Accumulators.new.Given as goal

-- the accumulators so far
abbrev pub invariant-loop-function : goal.invariant-loop-function
invariant-loop-function l = map state_in l.parts.items ≡ map (λ f. no_state f.filter f.function) (take l.function-index l.functions)
