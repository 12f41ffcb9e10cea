use Rattle.std.proofs.Common.{◌≡◌, ◌∷◌, ◌++◌, List, ap, sym, subst, map, arith}
use Rattle.group_tables.specs.GroupSummaries.{group_summary_in}
use Rattle.group_tables.specs.Inside.GroupsOfShards.{AreGroupsOfEach}
use Rattle.group_tables.specs.Shards.{all_entries}
use Rattle.group_tables.proofs.InParts.{ComesTo, Part, none-left, part-joined}
use Rattle.group_tables.specs.Inside.Summaries.{entry_summaries}
use Rattle.group_tables.proofs.Walks.{none_left}
use Rattle.group_tables.proofs.finish.join_parts.Goals as goal

pub loop-part-init : goal.loop-part-init
loop-part-init c = λ shards are. (
  shards,
  subst (λ (parts : List Part). AreGroupsOfEach shards parts) (sym c.into_iter-part-iterator.ensures.into_iter_gives.0) are,
  ap (λ gs. map group_summary_in gs ++ entry_summaries (all_entries shards)) c.in_ok-groups.ensures.items,
)

pub loop-part-preserved : goal.loop-part-preserved
loop-part-preserved c = λ shards are.
    let all = entry_summaries (all_entries shards) in
    let groups = c.loop-part.groups.items in
    let is : c.loop-part.part-iterator.rest.items ≡ c.in-Some.part ∷ c.next.new.self.rest.items = c.in-Some.ensures.steps.0 in
    part-joined all groups c.append.new.self.items c.in-Some.part c.next.new.self.rest.items c.in_ok-part.part c.in_ok-part.was c.in_ok-append.ensures.items
    (subst (λ (parts : List Part). ComesTo all groups parts) is (c.loop-part.invariant shards are))

pub returns : goal.returns
returns c = λ shards are.
    let rest = c.loop-part.part-iterator.rest in
    none-left (entry_summaries (all_entries shards)) c.loop-part.groups.items rest.items
    (none_left rest.items (let n = c.in-None.ensures.steps.0 in omega (arith, n, rest.ok))) (c.loop-part.invariant shards are)
