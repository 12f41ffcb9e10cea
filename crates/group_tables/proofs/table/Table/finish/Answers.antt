use Rattle.std.proofs.Common.{ℕ, List, Vec, Global, map, sym, ◌∙◌}
use Rattle.std.proofs.lemmas.Result.{IfOk-weaker}
use Rattle.semantics.specs.Aggregates.{AggregateFunction}
use Rattle.semantics.specs.Groups.{Record}
use Rattle.group_tables.specs.GroupSummaries.{group_summary_in}
use Rattle.group_tables.specs.declared.group.Group.{Group}
use Rattle.group_tables.specs.Inside.GroupsOfShards.{AreGroupsOfShards}
use Rattle.group_tables.specs.Inside.Summaries.{entry_summaries}
use Rattle.group_tables.specs.Shards.{all_entries}
use Rattle.group_tables.specs.Table.{IsTableOf, entries_by_key}
use Rattle.group_tables.proofs.Bags.{bag-permutation}
use Rattle.group_tables.proofs.Distinct.{distinct-shown}
use Rattle.group_tables.proofs.Entries.{Entries}
use Rattle.group_tables.proofs.GroupsLaw.{lines-bag}
use Rattle.group_tables.proofs.Shards.{distinct-all}
use Rattle.group_tables.proofs.TypedGroups.{groups-typed}
use Rattle.group_tables.proofs.table.Table.finish.Goals as goal

pub returns : goal.returns
returns g c =
    let shards = c.self.inside.shards.items in
    let es : Entries = all_entries shards in
    let distinct = distinct-all shards c.self.inside.apart in
    record {
      groups = IfOk-weaker c.finish_shards.result _ _
          (λ (all : Vec Group Global). λ (h : AreGroupsOfShards shards all.items).
          λ (set : List ℕ) (fs : List AggregateFunction) (rows : List Record) (a : IsTableOf set fs c.args.self rows) f.
          sym (bag-permutation (entry_summaries es) (map group_summary_in all.items) h f)
          ∙ lines-bag set fs rows (entries_by_key es) c.args.self c.self.view_is a (distinct-shown es distinct) f)
          c.finish_shards.ensures;
      typed = IfOk-weaker c.finish_shards.result _ _
          (λ (all : Vec Group Global). λ (h : AreGroupsOfShards shards all.items).
          λ fields set fs. groups-typed fields set fs c.args.self es (map group_summary_in all.items) c.self.view_is distinct h)
          c.finish_shards.ensures;
    }
