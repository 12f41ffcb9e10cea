use Rattle.std.proofs.Common.{◌≡◌, ◌<◌, ◌++◌, ◌∷◌, [], ◌∙◌, ℕ, List, length, map, ap, sym, subst, arith}
use Rattle.std.proofs.lemmas.List.{map-append}
use Rattle.std.specs.List.{AllByRecursion}
use Rattle.semantics.specs.Groups.{Key}
use Rattle.sort_keys.specs.Codes.{value_code, values_code}
use Rattle.sort_keys.specs.Decoding.{IsStorable}
use Rattle.group_tables.specs.Keys.{key_in}
use Rattle.group_tables.proofs.Packing.{all-pieces, next-piece}
use Rattle.group_tables.proofs.packed_key.PackedKey.split.Goals as goal

pub loop-rest-init : goal.loop-rest-init
loop-rest-init c =
    let mine = c.args.self.now.of_key in
    (mine.0, mine.1.0, c.as_slice-rest.ensures.value ∙ mine.1.1, ap (λ pieces. map (λ piece. piece.now) pieces ++ map value_code mine.0) c.clear.ensures.items)

pub loop-rest-preserved : goal.loop-rest-preserved
loop-rest-preserved c =
    let key = key_in c.args.self.now in
    let i = c.loop-rest.invariant in
    let some : 0 < length c.loop-rest.rest.now = let f = c.loop-rest-test.ensures in grind (arith, f) in
    subst (λ (pieces : List (List ℕ)). (left : Key) × AllByRecursion IsStorable left × (c.split_code.result.1.now ≡ values_code left) × (pieces ++ map value_code left ≡ map value_code key))
    (sym (ap (map (λ piece. piece.now)) c.in_ok-push.ensures.items ∙ map-append (λ piece. piece.now) c.loop-rest.pieces.items (c.split_code.result.0 ∷ [])))
    (next-piece (map (λ piece. piece.now) c.loop-rest.pieces.items) c.split_code.result.0.now c.loop-rest.rest.now c.split_code.result.1.now i.0 key some i.1 i.2 i.3 c.split_code.ensures.front)

pub returns : goal.returns
returns c =
    let i = c.loop-rest.invariant in
    let none : length c.loop-rest.rest.now ≡ 0 = let f = c.loop-rest-test.ensures in grind (arith, f) in
    all-pieces (map (λ piece. piece.now) c.loop-rest.pieces.items) c.loop-rest.rest.now i.0 (key_in c.args.self.now) none i.2 i.3
