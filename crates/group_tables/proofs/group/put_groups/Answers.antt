use Rattle.std.proofs.Common.{◌≡◌, [], ◌∷◌, ◌++◌, map, sym, ap, append_assoc, ◌∙◌}
use Rattle.group_tables.specs.declared.packed_key.PackedKey.{PackedKey}
use Rattle.group_tables.specs.Keys.{key_in}
use Rattle.std.proofs.lemmas.Map.Iter.{rest_more}
use Rattle.group_tables.specs.Group.{GroupState}
use Rattle.group_tables.specs.Inside.Group.{state_summary}
use Rattle.group_tables.specs.GroupSummaries.{group_summary_in}
use Rattle.group_tables.specs.Table.{entries_by_key}
use Rattle.group_tables.proofs.group.put_groups.Goals as goal

pub loop-key-preserved : goal.loop-key-preserved
loop-key-preserved c =
    let e : PackedKey × GroupState = (c.in-Some.key, c.in-Some.group) in
    let rest = c.next.new.self in
    let so_far = map group_summary_in c.loop-key.groups.items in
    let is : c.loop-key.key-iterator ≡ e ∷ rest = rest_more (λ (x : PackedKey × GroupState). x) c.loop-key.key-iterator rest c.next.result e c.in-Some.is c.next.ensures.steps in
    ap (λ rs. rs ++ map state_summary (entries_by_key rest)) c.in_ok-put_group.ensures
    ∙ append_assoc so_far (state_summary (key_in e.0, e.1) ∷ []) (map state_summary (entries_by_key rest))
    ∙ ap (λ es. so_far ++ map state_summary (entries_by_key es)) (sym is)
    ∙ c.loop-key.invariant
