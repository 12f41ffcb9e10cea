use Rattle.std.proofs.Common.{◌≡◌, ◌++◌, ◌∙◌, ℕ, List, ap, get_or, map, arith}
use Rattle.semantics.specs.Groups.{project}
use Rattle.semantics.specs.Values.{null}
use Rattle.sort_keys.specs.Codes.{value_code}
use Rattle.sort_keys.specs.Decoding.{KeyOf}
use Rattle.group_tables.specs.Keys.{key_in}
use Rattle.group_tables.proofs.Packing.{code-more, key-told, piece-at, places-code}
use Rattle.group_tables.proofs.packed_key.PackedKey.rewrite_from.Goals as goal

pub loop-place-preserved : goal.loop-place-preserved
loop-place-preserved c =
    let places = c.args.places.now in
    let key = key_in c.args.other.now in
    let i = c.loop-place.place-index in
    let old = c.loop-place.code.items in
    let place : ℕ = get_or places i 0 in
    let pieces : map (λ piece. piece.now) c.as_slice-pieces.result.now ≡ map value_code key = ap (map (λ piece. piece.now)) c.as_slice-pieces.ensures.value ∙ c.in_ok-split.ensures in
    code-more i places key old c.put_piece_at.new.code.items (omega arith) c.loop-place.invariant
    (c.in_ok-put_piece_at.ensures ∙ ap (λ (bytes : List ℕ). old ++ bytes) (ap (λ ps. get_or ps place (value_code null)) pieces ∙ piece-at key place))

pub invariant_of-result : goal.invariant_of-result
invariant_of-result c =
    let places = c.args.places.now in
    let key = key_in c.args.other.now in
    record { of_key = (project places key, places-code c.loop-place.place-index places c.loop-place.code.items key (omega arith) c.args.other.now.of_key.1.0 c.loop-place.invariant) }

pub returns : goal.returns
returns c =
    let places = c.args.places.now in
    let key = key_in c.args.other.now in
    let is = places-code c.loop-place.place-index places c.loop-place.code.items key (omega arith) c.args.other.now.of_key.1.0 c.loop-place.invariant in
    let one : (of : KeyOf c.loop-place.code.items) → of.0 ≡ project places key = λ of. key-told of (project places key) is.0 is.1 in
    search one
