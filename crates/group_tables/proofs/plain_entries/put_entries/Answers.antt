use Rattle.std.proofs.Common.{◌≡◌, ◌∷◌, ◌++◌, map, sym, ap, ◌∙◌}
use Rattle.std.proofs.lemmas.Map.Iter.{rest_more}
use Rattle.group_tables.specs.declared.packed_key.PackedKey.{PackedKey}
use Rattle.group_tables.specs.Group.{GroupState}
use Rattle.group_tables.specs.Inside.Keyed.{keyed_at, keyed_entry}
use Rattle.group_tables.proofs.Entries.{Entries}
use Rattle.group_tables.proofs.Moved.{one-more}
use Rattle.group_tables.proofs.plain_entries.put_entries.Goals as goal

pub loop-key-preserved : goal.loop-key-preserved
loop-key-preserved c =
    let e : PackedKey × GroupState = (c.in-Some.key, c.in-Some.group) in
    let rest = c.next.new.self in
    let so_far = c.loop-key.keyed.items in
    let is : c.loop-key.key-iterator ≡ e ∷ rest = rest_more (λ (x : PackedKey × GroupState). x) c.loop-key.key-iterator rest c.next.result e c.in-Some.is c.next.ensures.steps in
    ap (λ ks. map keyed_entry ks ++ map keyed_at rest) c.in_ok-push.ensures.items
    ∙ one-more keyed_entry keyed_at so_far c.in_ok-entry.entry e rest c.in_ok-entry.ensures
    ∙ ap (λ (es : Entries). map keyed_entry so_far ++ map keyed_at es) (sym is)
    ∙ c.loop-key.invariant
