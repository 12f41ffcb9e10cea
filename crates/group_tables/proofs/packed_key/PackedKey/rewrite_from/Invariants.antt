use Rattle.std.proofs.Common.{◌≡◌, take}
use Rattle.semantics.specs.Groups.{project}
use Rattle.sort_keys.specs.Codes.{values_code}
use Rattle.group_tables.specs.Keys.{key_in}
use Rattle.group_tables.proofs.packed_key.PackedKey.rewrite_from.Given as goal

-- the bytes so far are the code of the values so far
abbrev pub invariant-loop-place : goal.invariant-loop-place
invariant-loop-place l = l.code.items ≡ values_code (project (take l.place-index l.places) (key_in l.other))
