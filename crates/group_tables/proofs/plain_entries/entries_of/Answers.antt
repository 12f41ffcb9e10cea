use Rattle.std.proofs.Common.{◌≡◌, Vec, Global, map, refl, ap, ◌∙◌}
use Rattle.std.proofs.lemmas.Result.{IfOk-weaker}
use Rattle.values.specs.GroupStates.{entries_of}
use Rattle.values.specs.declared.group_entry.GroupEntry.{GroupEntry}
use Rattle.group_tables.specs.declared.key_order.Keyed.{Keyed}
use Rattle.group_tables.specs.Shards.{all_entries, contents_of_shards}
use Rattle.group_tables.proofs.Listing.{listed}
use Rattle.group_tables.proofs.Shards.{distinct-all}
use Rattle.group_tables.proofs.plain_entries.entries_of.Goals as goal

pub returns : goal.returns
returns c =
    let shards = c.args.shards.items in
    let sorted = c.sort_keyed.result.items in
    IfOk-weaker c.things_of.result _ _
    (λ (things : Vec GroupEntry Global) (are : things.items ≡ map (λ (k : Keyed GroupEntry). k.thing) sorted).
    ap entries_of are
    ∙ listed (all_entries shards) (contents_of_shards shards) c.in_ok-keyed.keyed.items sorted refl (distinct-all shards c.requires) c.in_ok-keyed.ensures c.sort_keyed.ensures.permutation c.sort_keyed.ensures.sorted)
    c.things_of.ensures
