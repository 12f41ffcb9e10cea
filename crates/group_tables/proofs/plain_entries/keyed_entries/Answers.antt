use Rattle.std.proofs.Common.{◌≡◌, [], ◌∷◌, ◌++◌, List, append-nil, append_assoc, arith, map, sym, ap, ◌∙◌}
use Rattle.std.proofs.lemmas.List.{map-append}
use Rattle.group_tables.specs.declared.shard.Shard.{Shard}
use Rattle.group_tables.specs.Inside.Keyed.{keyed_at, keyed_entry}
use Rattle.group_tables.specs.Shards.{all_entries, entries_in}
use Rattle.group_tables.proofs.Walks.{none_left}
use Rattle.group_tables.proofs.plain_entries.keyed_entries.Goals as goal

pub loop-shard-preserved : goal.loop-shard-preserved
loop-shard-preserved c =
    let so_far = map keyed_entry c.loop-shard.keyed.items in
    let rest = c.next.new.self.rest.items in
    let es = entries_in c.in-Some.shard in
    let is : c.loop-shard.shard-iterator.rest.items ≡ c.in-Some.shard ∷ rest = c.in-Some.ensures.steps.0 in
    ap (λ ks. ks ++ map keyed_at (all_entries rest)) c.in_ok-put_entries.ensures
    ∙ append_assoc so_far (map keyed_at es) (map keyed_at (all_entries rest))
    ∙ ap (λ ks. so_far ++ ks) (sym (map-append keyed_at es (all_entries rest)))
    ∙ ap (λ (ss : List Shard). so_far ++ map keyed_at (all_entries ss)) (sym is)
    ∙ c.loop-shard.invariant

pub returns : goal.returns
returns c =
    let so_far = map keyed_entry c.loop-shard.keyed.items in
    let rest = c.loop-shard.shard-iterator.rest in
    let left : rest.items ≡ [] = none_left rest.items (let n = c.in-None.ensures.steps.0 in omega (arith, n, rest.ok)) in
    sym (append-nil so_far) ∙ ap (λ (ss : List Shard). so_far ++ map keyed_at (all_entries ss)) (sym left) ∙ c.loop-shard.invariant
