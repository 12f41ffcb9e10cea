use Rattle.std.proofs.Common.{◌≡◌, []}
use Rattle.sort_keys.specs.Decoding.{KeyOf}
use Rattle.group_tables.proofs.Packing.{key-told}
use Rattle.group_tables.proofs.packed_key.PackedKey.empty.Goals as goal

pub returns : goal.returns
returns c =
    let one : (of : KeyOf c.new.result.items) → of.0 ≡ [] = λ of. key-told of [] tt c.new.ensures.items in
    search one
