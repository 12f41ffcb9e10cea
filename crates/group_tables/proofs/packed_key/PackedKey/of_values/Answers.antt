use Rattle.std.proofs.Common.{◌≡◌, ◌∙◌, ◌++◌, ℕ, ap, List, [], ◌∷◌}
use Rattle.std.specs.List.{AllByRecursion}
use Rattle.values.specs.Datum.{data_of}
use Rattle.values.specs.declared.value.Value.{Value}
use Rattle.sort_keys.specs.Codes.{IsCodable, values_code}
use Rattle.sort_keys.specs.Decoding.{IsStorable, KeyOf}
use Rattle.sort_keys.proofs.Decoding.{storable}
use Rattle.group_tables.proofs.Packing.{key-told}
use Rattle.group_tables.proofs.packed_key.PackedKey.of_values.Goals as goal

all-storable : (values : List Value) → AllByRecursion IsCodable (data_of values) → AllByRecursion IsStorable (data_of values)
all-storable [] all = tt
all-storable (x ∷ values) all = (storable x all.0, all-storable values all.1)

pub invariant_of-result : goal.invariant_of-result
invariant_of-result c =
    let values = c.args.values.now in
    let code = c.in_ok-put_values.ensures.code ∙ ap (λ (s : List ℕ). s ++ values_code (data_of values)) c.in_ok-code.ensures.items in
    record { of_key = (data_of values, (all-storable values c.in_ok-put_values.ensures.codable, code)) }

pub returns : goal.returns
returns c =
    let values = c.args.values.now in
    let code = c.in_ok-put_values.ensures.code ∙ ap (λ (s : List ℕ). s ++ values_code (data_of values)) c.in_ok-code.ensures.items in
    let one : (of : KeyOf c.put_values.new.code.items) → of.0 ≡ data_of values =
    λ of. key-told of (data_of values) (all-storable values c.in_ok-put_values.ensures.codable) code in
    search one
