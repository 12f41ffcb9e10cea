use Rattle.std.proofs.Common.{◌≡◌, [], ◌∷◌, ◌++◌, map, ap, sym, append-nil, append_assoc, arith, ◌∙◌}
use Rattle.group_tables.specs.GroupSummaries.{group_summary_in}
use Rattle.group_tables.specs.Inside.Walks.{entries_left}
use Rattle.group_tables.specs.Inside.Summaries.{entry_summaries}
use Rattle.group_tables.proofs.Walks.{none_left, entry_summaries-append}
use Rattle.group_tables.proofs.walk.put_rest.Goals as goal

pub loop-walk-preserved : goal.loop-walk-preserved
loop-walk-preserved c =
    let so_far = map group_summary_in c.loop-walk.all.items in
    let rest = c.next.new.self.rest.items in
    let es = c.in-Some.walk.entries in
    let is : c.loop-walk.walk-iterator.rest.items ≡ c.in-Some.walk ∷ rest = c.in-Some.ensures.steps.0 in
    ap (λ rs. rs ++ entry_summaries (entries_left rest)) c.in_ok-put_groups.ensures
    ∙ append_assoc so_far (entry_summaries es) (entry_summaries (entries_left rest))
    ∙ ap (λ rs. so_far ++ rs) (sym (entry_summaries-append es (entries_left rest)))
    ∙ ap (λ ws. so_far ++ entry_summaries (entries_left ws)) (sym is)
    ∙ c.loop-walk.invariant

pub returns : goal.returns
returns c =
    let so_far = map group_summary_in c.loop-walk.all.items in
    let left : c.loop-walk.walk-iterator.rest.items ≡ [] = none_left c.loop-walk.walk-iterator.rest.items (let n = c.in-None.ensures.steps.0 in omega (arith, n, c.loop-walk.walk-iterator.rest.ok)) in
    sym (append-nil so_far)
    ∙ ap (λ ws. so_far ++ entry_summaries (entries_left ws)) (sym left)
    ∙ c.loop-walk.invariant
