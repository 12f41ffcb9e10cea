use Rattle.std.proofs.Common.{List, Vec, Global, ◌≡◌, map, sym, subst}
use Rattle.std.proofs.lemmas.Result.{IfOk-weaker}
use Rattle.std.proofs.lemmas.List.Sorted.{IsPermutation-refl}
use Rattle.std.specs.List.Sorted.{IsPermutation}
use Rattle.group_tables.specs.GroupSummaries.{group_summary_in}
use Rattle.group_tables.specs.Shards.{all_entries}
use Rattle.group_tables.specs.Inside.GroupsOfShards.{AreGroupsOfEach, AreGroupsOfShards}
use Rattle.group_tables.specs.Inside.Summaries.{entry_summaries}
use Rattle.group_tables.specs.declared.group.Group.{Group}
use Rattle.group_tables.specs.declared.shard.Shard.{Shard}
use Rattle.group_tables.proofs.finish.groups_among.Goals as goal

pub returns : goal.returns
returns g c =
    let shards = c.args.shards.items in
    IfOk-weaker c.join_parts.result
    (λ (all : Vec Group Global). (ss : List Shard) → AreGroupsOfEach ss c.in_ok-parts.parts.items → map group_summary_in all.items ≡ entry_summaries (all_entries ss))
    (λ (all : Vec Group Global). AreGroupsOfShards shards all.items)
    (λ all each. subst (IsPermutation (entry_summaries (all_entries shards))) (sym (each shards c.in_ok-parts.ensures)) (IsPermutation-refl _))
    c.join_parts.ensures
