use Rattle.std.proofs.Common.{◌≡◌, ◌++◌, length, map}
use Rattle.std.specs.List.{AllByRecursion}
use Rattle.semantics.specs.Groups.{Key}
use Rattle.sort_keys.specs.Codes.{value_code, values_code}
use Rattle.sort_keys.specs.Decoding.{IsStorable}
use Rattle.group_tables.specs.Keys.{key_in}
use Rattle.group_tables.proofs.packed_key.PackedKey.split.Given as goal

-- the pieces so far, with those of the values that the rest is the code of, are those of the key
abbrev pub invariant-loop-rest : goal.invariant-loop-rest
invariant-loop-rest l = (left : Key) × AllByRecursion IsStorable left × (l.rest ≡ values_code left) × (map (λ piece. piece.now) l.pieces.items ++ map value_code left ≡ map value_code (key_in l.self))

-- the bytes that are left
abbrev pub decreases-loop-rest : goal.decreases-loop-rest
decreases-loop-rest l = length l.rest
