use Rattle.std.proofs.Common.{ap, ◌∙◌}
use Rattle.std.specs.FinSet as set
use Rattle.values.specs.Datum.{datum_of}
use Rattle.group_tables.specs.Inside.Values.{values_in}
use Rattle.group_tables.proofs.Order.{value_eq}
use Rattle.group_tables.proofs.Sets.{found-none, found-one, found-shown}
use Rattle.group_tables.proofs.value_set.ValueSet.contains.Goals as goal

pub returns-in-Empty : goal.returns-in-Empty
returns-in-Empty c = rw c.in-Empty.is (found-none c.args.value.now)

pub returns-in-One : goal.returns-in-One
returns-in-One c =
    let value = c.args.value.now in
    rw c.in-One.is (c.eq.ensures ∙ ap (value_eq value) c.deref.ensures ∙ found-one value c.in-One.only.value)

pub returns-in-Many : goal.returns-in-Many
returns-in-Many c =
    let value = c.args.value.now in
    rw c.in-Many.is
    (c.contains.ensures ∙ found-shown value c.deref-in-Many.result.now.keys
    ∙ ap (λ box. set.contains (values_in box.keys) (datum_of value)) c.deref-in-Many.ensures)
