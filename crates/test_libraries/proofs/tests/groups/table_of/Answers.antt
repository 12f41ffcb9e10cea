use Rattle.std.proofs.Common.{Bool, List, [], ◌∷◌, ◌++◌, refl, ap, arith, length-append}
use Rattle.values.specs.Datum.{data_of}
use Rattle.semantics.specs.Groups.{Record, value_at}
use Rattle.semantics.specs.Aggregates.{is_non_null}
use Rattle.test_libraries.proofs.tests.groups.table_of.Goals as goal

abbrev filters : List (Record → Bool)
filters = (λ row. is_non_null (value_at 1 row)) ∷ []

pub loop-fields-init : goal.loop-fields-init
loop-fields-init c = ([], (c.in_ok-table.ensures.empty filters, refl))

pub add-requires-clause-room : goal.add-requires-clause-room
add-requires-clause-room c =
    let i = c.loop-fields.invariant in
    ∣ record { filters = filters; rows = i.0; is_table = i.1.0; few = omega (arith, i.1.1, c.loop-fields-test.true, c.requires) } ∣₁

pub loop-fields-preserved : goal.loop-fields-preserved
loop-fields-preserved c =
    let i = c.loop-fields.invariant in
    let row = data_of c.as_slice-values.result.now in
    let l = length-append i.0 (row ∷ []) in
    let marks = ap (λ (b : Bool). b ∷ []) c.keeps.ensures in
    (i.0 ++ row ∷ [], (c.in_ok-add.ensures.added filters i.0 marks i.1.0, omega (arith, l, i.1.1)))

pub returns : goal.returns
returns c =
    let i = c.loop-fields.invariant in
    (i.0, (i.1.0, omega (arith, i.1.1, c.loop-fields.auto.fields-index-end, c.requires)))
