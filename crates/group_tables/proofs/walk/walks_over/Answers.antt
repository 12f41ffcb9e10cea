use Rattle.std.proofs.Common.{◌≡◌, ◌∷◌, ◌++◌, ap, sym, append_assoc, ◌∙◌}
use Rattle.group_tables.specs.Shards.{all_entries}
use Rattle.group_tables.specs.Inside.Walks.{entries_left}
use Rattle.group_tables.specs.declared.walk.Walk.{Walk}
use Rattle.group_tables.proofs.Entries.{Entries}
use Rattle.group_tables.proofs.Walks.{left-append}
use Rattle.group_tables.proofs.walk.walks_over.Goals as goal

pub loop-shard-preserved : goal.loop-shard-preserved
loop-shard-preserved c =
    let walks = c.loop-shard.walks.items in
    let rest = c.next.new.self.rest.items in
    let walk : Walk = c.walk_over.result in
    let is : c.loop-shard.shard-iterator.rest.items ≡ c.in-Some.shard ∷ rest = c.in-Some.ensures.steps.0 in
    ap (λ ws. entries_left ws ++ all_entries rest) c.in_ok-push.ensures.items
    ∙ ap (λ (es : Entries). es ++ all_entries rest) (left-append walks walk)
    ∙ append_assoc (entries_left walks) walk.entries (all_entries rest)
    ∙ ap (λ (es : Entries). entries_left walks ++ (es ++ all_entries rest)) c.walk_over.ensures
    ∙ ap (λ ss. entries_left walks ++ all_entries ss) (sym is)
    ∙ c.loop-shard.invariant
