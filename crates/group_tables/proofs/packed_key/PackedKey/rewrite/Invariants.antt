use Rattle.std.proofs.Common.{◌≡◌, take}
use Rattle.std.specs.List.{AllByRecursion}
use Rattle.values.specs.Datum.{data_of}
use Rattle.semantics.specs.Groups.{project}
use Rattle.sort_keys.specs.Codes.{values_code}
use Rattle.sort_keys.specs.Decoding.{IsStorable}
use Rattle.group_tables.proofs.packed_key.PackedKey.rewrite.Given as goal

-- the bytes so far are the code of the values so far
abbrev pub invariant-loop-place : goal.invariant-loop-place
invariant-loop-place l = record {
  storable : AllByRecursion IsStorable (project (take l.place-index l.set) (data_of l.row));
  is : l.code.items ≡ values_code (project (take l.place-index l.set) (data_of l.row));
}
