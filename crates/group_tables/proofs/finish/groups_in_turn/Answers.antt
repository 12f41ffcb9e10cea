use Rattle.std.proofs.Common.{List, Vec, Global, ◌≡◌, ◌++◌, map, sym, subst}
use Rattle.std.proofs.lemmas.Result.{IfOk-weaker}
use Rattle.std.proofs.lemmas.List.Sorted.{IsPermutation-refl, IsPermutation-trans}
use Rattle.std.specs.List.Sorted.{IsPermutation}
use Rattle.group_tables.specs.GroupSummaries.{group_summary_in}
use Rattle.group_tables.specs.declared.group.Group.{Group}
use Rattle.group_tables.specs.Inside.Walks.{entries_left}
use Rattle.group_tables.proofs.Entries.{Entries}
use Rattle.group_tables.specs.Inside.Summaries.{entry_summaries, summaries_with}
use Rattle.group_tables.proofs.finish.groups_in_turn.Goals as goal

pub loop-init : goal.loop-init
loop-init c = subst (λ (groups : List Group). IsPermutation (entry_summaries (entries_left c.in_ok-walks.walks.items)) (summaries_with groups (entries_left c.in_ok-walks.walks.items)))
    (sym c.in_ok-groups.ensures.items) (IsPermutation-refl _)

pub loop-preserved : goal.loop-preserved
loop-preserved c = IsPermutation-trans _ _ _ c.loop.invariant c.in_ok-put_next_of_each.ensures

pub returns : goal.returns
returns c = IfOk-weaker c.put_rest.result _ _
    (λ (all : Vec Group Global). λ (is : map group_summary_in all.items ≡ map group_summary_in c.loop.groups.items ++ entry_summaries (entries_left c.loop.walks.items)).
    subst (λ (xs : Entries). IsPermutation (entry_summaries xs) (map group_summary_in all.items)) c.in_ok-walks.ensures
    (subst (IsPermutation (entry_summaries (entries_left c.in_ok-walks.walks.items))) (sym is) c.loop.invariant))
    c.put_rest.ensures
