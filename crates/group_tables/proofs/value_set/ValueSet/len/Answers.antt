use Rattle.std.proofs.Common.{sym, ap, ◌∙◌}
use Rattle.std.specs.FinSet as set
use Rattle.group_tables.specs.Inside.Values.{values_in}
use Rattle.group_tables.proofs.Sets.{len-none, len-one, len-shown}
use Rattle.group_tables.proofs.value_set.ValueSet.len.Goals as goal

pub returns-in-Empty : goal.returns-in-Empty
returns-in-Empty c = rw c.in-Empty.is len-none

pub returns-in-One : goal.returns-in-One
returns-in-One c = rw c.in-One.is (sym (len-one c.in-One.field-0.value))

pub returns-in-Many : goal.returns-in-Many
returns-in-Many c =
    rw c.in-Many.is
    (c.len.ensures.len ∙ sym (len-shown c.deref.result.now.keys c.len.ensures.unique)
    ∙ ap (λ box. set.len (values_in box.keys)) c.deref.ensures)
