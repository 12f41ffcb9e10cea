use Rattle.std.proofs.Common.{sym, ap, ◌∙◌}
use Rattle.std.specs.FinSet as set
use Rattle.values.specs.Datum.{datum_of}
use Rattle.group_tables.specs.Inside.Values.{values_in}
use Rattle.group_tables.proofs.Order.{value_eq}
use Rattle.group_tables.proofs.Sets.{equal-insert, shown-insert}
use Rattle.group_tables.proofs.value_set.ValueSet.insert.Goals as goal

pub returns-then-eq : goal.returns-then-eq
returns-then-eq c =
    let value = c.args.value in
    rw c.in-One.is (equal-insert c.in-One.only.value value (sym (c.if-eq.ensures ∙ ap (value_eq value) c.deref.ensures)))

pub returns-in_ok-insert-in-Many : goal.returns-in_ok-insert-in-Many
returns-in_ok-insert-in-Many c =
    let value = c.args.value in
    rw c.in-Many.is
    (shown-insert c.deref_mut-in-Many.result.now.keys c.insert.new.self.keys value
    c.in_ok-insert-in-Many.field-0 c.in_ok-insert-in-Many.ensures.added c.in_ok-insert-in-Many.ensures.keys
    ∙ ap (λ box. set.insert (values_in box.keys) (datum_of value)) c.deref_mut-in-Many.ensures.value)
