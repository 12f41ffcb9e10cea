use Rattle.std.proofs.Common.{subst, ◌∙◌}
use Rattle.semantics.specs.Groups.{Key}
use Rattle.group_tables.specs.Table.{Contents, IsJoined}
use Rattle.group_tables.proofs.Joint.{both_tables-is}
use Rattle.group_tables.proofs.table.Table.absorb.Goals as goal

pub returns : goal.returns
returns g c =
    c.drop.view_is
    ∙ both_tables-is c.args.self.now c.args.other c.in_ok-self-inside.field-0
    (subst (λ (old : Contents). (k : Key) → IsJoined old c.args.other c.in_ok-self-inside.field-0 k) c.replace-table.ensures.value c.in_ok-self-inside.ensures)
