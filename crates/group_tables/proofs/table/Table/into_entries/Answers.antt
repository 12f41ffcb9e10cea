use Rattle.std.proofs.Common.{◌≡◌, Vec, Global, ap, ◌∙◌}
use Rattle.std.proofs.lemmas.Result.{IfOk-weaker}
use Rattle.values.specs.GroupStates.{entries_of}
use Rattle.values.specs.declared.group_entry.GroupEntry.{GroupEntry}
use Rattle.group_tables.specs.Entries.{table_entries}
use Rattle.group_tables.specs.Shards.{contents_of_shards}
use Rattle.group_tables.proofs.table.Table.into_entries.Goals as goal

pub returns : goal.returns
returns c =
    IfOk-weaker c.entries_of.result _ _
    (λ (entries : Vec GroupEntry Global) (are : entries_of entries.items ≡ table_entries (contents_of_shards c.self.inside.shards.items)). are ∙ ap table_entries c.self.view_is)
    c.entries_of.ensures
