use Rattle.std.proofs.Common.{◌≡◌, ◌<◌, ◌++◌, List, length, sym, subst, arith}
use Rattle.std.specs.List.{AllByRecursion}
use Rattle.semantics.specs.Values.{Datum}
use Rattle.values.specs.Datum.{data_of}
use Rattle.values.specs.declared.value.Value.{Value}
use Rattle.sort_keys.specs.Codes.{values_code}
use Rattle.sort_keys.specs.Decoding.{IsStorable}
use Rattle.sort_keys.proofs.Decoding.{all-read, next-read}
use Rattle.sort_keys.proofs.decode.values_of.Goals as goal

pub loop-rest-preserved : goal.loop-rest-preserved
loop-rest-preserved c = λ key all is.
    let i = c.loop-rest.invariant key all is in
    let some : 0 < length c.loop-rest.rest.now = let f = c.loop-rest-test.ensures in grind (arith, f) in
    subst (λ (vs : List Value). (left : List Datum) × AllByRecursion IsStorable left × (c.in_ok-value.behind.now ≡ values_code left) × (data_of vs ++ left ≡ key))
    (sym c.in_ok-push.ensures.items)
    (next-read c.loop-rest.values.items c.in_ok-value.value c.loop-rest.rest.now c.in_ok-value.behind.now i.0 key some i.1 i.2 i.3 c.in_ok-value.ensures.value)

pub returns : goal.returns
returns c = λ key all is.
    let i = c.loop-rest.invariant key all is in
    let none : length c.loop-rest.rest.now ≡ 0 = let f = c.loop-rest-test.ensures in grind (arith, f) in
    all-read (data_of c.loop-rest.values.items) c.loop-rest.rest.now i.0 key none i.2 i.3
