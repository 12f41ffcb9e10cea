use Rattle.std.proofs.Common.{Option, sym, subst}
use Rattle.std.specs.FinMap as fin
use Rattle.group_tables.specs.Keys.{key_in}
use Rattle.semantics.specs.Groups.{key_order}
use Rattle.group_tables.specs.Group.{GroupState}
use Rattle.group_tables.specs.Table.{Contents, IsFitting}
use Rattle.group_tables.proofs.table.Table.with_empty_key.Goals as goal

pub put_to_group-requires : goal.put_to_group-requires
put_to_group-requires c =
    let k = key_in c.empty.result in
    let part = c.in_ok-group.group in
    subst (λ (t : Contents). IsFitting part (fin.get t k)) (sym c.in_ok-table.ensures)
    (subst (λ (o : Option GroupState). IsFitting part o) (sym (fin.get-empty key_order k)) tt)
