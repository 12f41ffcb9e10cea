use Rattle.std.proofs.Common.{◌≡◌, ◌∙◌}
use Rattle.sort_keys.specs.Decoding.{KeyOf}
use Rattle.group_tables.proofs.Packing.{key-told}
use Rattle.group_tables.proofs.packed_key.PackedKey.copy.Goals as goal

pub returns : goal.returns
returns c =
    let mine = c.args.self.now.of_key in
    let one : (of : KeyOf c.in_ok-code.code.items) → of.0 ≡ mine.0 = λ of. key-told of mine.0 mine.1.0 (c.in_ok-code.ensures.items ∙ c.as_slice.ensures.value ∙ mine.1.1) in
    search one
