use Rattle.std.proofs.Common.{◌≡◌, ◌∙◌, ap, subst, take_all, arith, take}
use Rattle.std.specs.List.{AllByRecursion}
use Rattle.values.specs.Datum.{data_of}
use Rattle.semantics.specs.Groups.{project}
use Rattle.sort_keys.specs.Codes.{values_code}
use Rattle.sort_keys.specs.Decoding.{IsStorable, KeyOf}
use Rattle.group_tables.proofs.Packing.{code-more, key-told, storable-more}
use Rattle.group_tables.proofs.packed_key.PackedKey.rewrite.Goals as goal

pub loop-place-preserved : goal.loop-place-preserved
loop-place-preserved c =
    let set = c.args.set.now in
    let row = data_of c.args.row.now in
    let i = c.loop-place.place-index in
    let inv = c.loop-place.invariant in
    record {
      storable = storable-more i set row (omega arith) inv.storable c.in_ok-put_value_at.ensures.storable;
      is = code-more i set row c.loop-place.code.items c.put_value_at.new.code.items (omega arith) inv.is c.in_ok-put_value_at.ensures.code;
    }

pub returns : goal.returns
returns c =
    let set = c.args.set.now in
    let row = data_of c.args.row.now in
    let i = c.loop-place.invariant in
    let whole : take c.loop-place.place-index set ≡ set = take_all c.loop-place.place-index set (omega arith) in
    let one : (of : KeyOf c.loop-place.code.items) → of.0 ≡ project set row =
    λ of. key-told of (project set row) (subst (λ ps. AllByRecursion IsStorable (project ps row)) whole i.storable) (i.is ∙ ap (λ ps. values_code (project ps row)) whole) in
    search one
