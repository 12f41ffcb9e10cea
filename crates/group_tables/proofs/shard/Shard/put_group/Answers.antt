use Rattle.std.proofs.Common.{◌≡◌, ◌∙◌, ap, sym, Some, None, IsSome}
use Rattle.group_tables.specs.Inside.Keys.{key_eq}
use Rattle.group_tables.specs.Keys.{key_in}
use Rattle.std.proofs.lemmas.Result.{on_ok_weaker}
use Rattle.std.specs.FinMap as fin
use Rattle.std.specs.Option.{option_copied_mut, is_some}
use Rattle.std.specs.Map.{lookup}
use Rattle.group_tables.specs.Group.{joint_group}
use Rattle.group_tables.specs.Shards.{contents_in}
use Rattle.group_tables.specs.Table.{joint_option, contents_of}
use Rattle.group_tables.proofs.Entries.{get-updated, get-shown, put_is, updated-elsewhere, elsewhere-after}
use Rattle.group_tables.proofs.shard.Shard.put_group.Goals as goal

-- what the shard has at the key
found : (c : goal.In-Some) → fin.get (contents_in c.args.self.now) (key_in c.args.key) ≡ Some c.in-Some.group.now
found c = get-shown c.args.key c.args.self.now.groups.entries ∙ sym c.get_mut.ensures.value ∙ ap option_copied_mut c.in-Some.is

pub absorb-requires-clause-room : goal.absorb-requires-clause-room
absorb-requires-clause-room c = let h = rw (found c) at c.requires in h.0

pub absorb-requires-clause-one_each : goal.absorb-requires-clause-one_each
absorb-requires-clause-one_each c = let h = rw (found c) at c.requires in h.1

found_then : (c : goal.After-drop-key) → fin.get (contents_in c.args.self.now) (key_in c.args.key) ≡ Some c.in-Some.group.now
found_then c = get-shown c.args.key c.args.self.now.groups.entries ∙ sym c.get_mut.ensures.value ∙ ap option_copied_mut c.in-Some.is

there : (c : goal.After-drop-key) → IsSome (lookup (λ k. key_eq c.args.key k) c.args.self.now.groups.entries)
there c = ap is_some (sym c.get_mut.ensures.value ∙ ap option_copied_mut c.in-Some.is)

pub returns-in-Some-clause-put : goal.returns-in-Some-clause-put
returns-in-Some-clause-put c =
    let es = c.args.self.now.groups.entries in
    let n = c.get_mut.follows.lender c.absorb.new.self in
    let u = (c.get_mut.follows.holds c.absorb.new.self).3 (there c) in
    on_ok_weaker c.absorb.result
    (λ (h : c.absorb.new.self ≡ joint_group c.in-Some.group.now c.args.part).
    put_is (contents_of es) (contents_of n.entries) (key_in c.args.key) c.args.part (Some c.absorb.new.self)
    (λ q. get-updated es n.entries c.args.key (Some c.absorb.new.self) u.1 u.3 q)
    (ap Some h ∙ ap (λ o. joint_option o (Some c.args.part)) (sym (found_then c))))
    c.absorb.ensures

pub returns-in-Some-clause-others : goal.returns-in-Some-clause-others
returns-in-Some-clause-others c =
    let es = c.args.self.now.groups.entries in
    let n = c.get_mut.follows.lender c.absorb.new.self in
    let u = (c.get_mut.follows.holds c.absorb.new.self).3 (there c) in
    updated-elsewhere es n.entries c.args.key (Some c.absorb.new.self) u.1 u.3

pub returns-clause-put : goal.returns-clause-put
returns-clause-put c =
    let es = c.args.self.now.groups.entries in
    let key = key_in c.args.key in
    let u = c.in_ok-insert.ensures.updates in
    let others = rw (c.get_mut.follows.holds-at-none) at u.3 in
    let absent : fin.get (contents_of es) key ≡ None = get-shown c.args.key es ∙ sym c.get_mut.ensures.value ∙ ap option_copied_mut c.in_default.is in
    put_is (contents_of es) (contents_of c.insert.new.self.entries) key c.args.part (Some c.args.part)
    (λ q. get-updated es c.insert.new.self.entries c.args.key (Some c.args.part) u.1 others q)
    (ap (λ o. joint_option o (Some c.args.part)) (sym absent))

pub returns-clause-others : goal.returns-clause-others
returns-clause-others c =
    elsewhere-after c.insert.result c.args.self.now.groups.entries _ c.insert.new.self.entries c.args.key (Some c.args.part)
    (ap (λ n. n.entries) c.get_mut.follows.holds-at-none)
    (on_ok_weaker c.insert.result (λ u. (u.1, u.3)) c.insert.ensures.updates)
    c.insert.ensures.err
