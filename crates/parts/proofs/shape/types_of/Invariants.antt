use Rattle.std.proofs.Common.{◌≡◌, map, take}
use Rattle.values.specs.Schema.{fields_of}
use Rattle.parts.specs.ReadingParts.{type_at}
use Rattle.parts.proofs.shape.types_of.Given as goal

abbrev pub invariant-loop-place : goal.invariant-loop-place
invariant-loop-place l = l.types.items ≡ map (type_at (fields_of l.columns)) (take l.place-index l.places)
