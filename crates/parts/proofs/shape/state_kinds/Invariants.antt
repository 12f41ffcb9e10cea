use Rattle.std.proofs.Common.{◌≡◌, map, take}
use Rattle.values.specs.Schema.{fields_of}
use Rattle.parts.specs.ReadingParts.{state_kind}
use Rattle.parts.proofs.shape.state_kinds.Given as goal

abbrev pub invariant-loop-function : goal.invariant-loop-function
invariant-loop-function l = l.kinds.items ≡ map (state_kind (fields_of l.columns)) (take l.function-index l.functions)
