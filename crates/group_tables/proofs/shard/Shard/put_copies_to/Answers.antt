use Rattle.std.proofs.Common.{◌≡◌, ◌∷◌, [], ap, sym, subst, ◌∙◌}
use Rattle.group_tables.specs.declared.packed_key.PackedKey.{PackedKey}
use Rattle.std.proofs.lemmas.Map.Iter.{rest_more, rest_all}
use Rattle.std.specs.Map.Iter.{deref_pair}
use Rattle.group_tables.specs.Group.{GroupState}
use Rattle.group_tables.specs.Shards.{entries_in}
use Rattle.group_tables.specs.Inside.Table.{TakesEach, group_with_entries}
use Rattle.group_tables.proofs.Entries.{Entries}
use Rattle.group_tables.proofs.shard.Shard.put_copies_to.Goals as goal

pub loop-key-init : goal.loop-key-init
loop-key-init c =
    let is : c.into_iter-key-iterator.result ≡ entries_in c.args.self.now = c.into_iter-key-iterator.ensures.into_iter_gives.0 in
    record {
      takes = subst (λ (es : Entries). TakesEach c.args.group.now es) (sym is) c.requires;
      joined = ap (group_with_entries c.args.group.now) is;
    }

pub absorb_copies-requires-clause-room : goal.absorb_copies-requires-clause-room
absorb_copies-requires-clause-room c =
    let e : PackedKey × GroupState = (c.in-Some._key.now, c.in-Some.part.now) in
    let more : c.loop-key._key-iterator ≡ e ∷ c.next.new.self =
    rest_more (deref_pair {K = PackedKey} {X = GroupState}) c.loop-key._key-iterator c.next.new.self c.next.result (c.in-Some._key, c.in-Some.part) c.in-Some.is c.next.ensures.steps in
    (subst (λ (es : Entries). TakesEach c.loop-key.group es) more c.loop-key.invariant.takes).0

pub absorb_copies-requires-clause-one_each : goal.absorb_copies-requires-clause-one_each
absorb_copies-requires-clause-one_each c =
    let e : PackedKey × GroupState = (c.in-Some._key.now, c.in-Some.part.now) in
    let more : c.loop-key._key-iterator ≡ e ∷ c.next.new.self =
    rest_more (deref_pair {K = PackedKey} {X = GroupState}) c.loop-key._key-iterator c.next.new.self c.next.result (c.in-Some._key, c.in-Some.part) c.in-Some.is c.next.ensures.steps in
    (subst (λ (es : Entries). TakesEach c.loop-key.group es) more c.loop-key.invariant.takes).1

pub loop-key-preserved : goal.loop-key-preserved
loop-key-preserved c =
    let e : PackedKey × GroupState = (c.in-Some._key.now, c.in-Some.part.now) in
    let rest : Entries = c.next.new.self in
    let more : c.loop-key._key-iterator ≡ e ∷ rest =
    rest_more (deref_pair {K = PackedKey} {X = GroupState}) c.loop-key._key-iterator rest c.next.result (c.in-Some._key, c.in-Some.part) c.in-Some.is c.next.ensures.steps in
    let takes = subst (λ (es : Entries). TakesEach c.loop-key.group es) more c.loop-key.invariant.takes in
    record {
      takes = subst (λ (g : GroupState). TakesEach g rest) (sym c.in_ok-absorb_copies.ensures) takes.2;
      joined = ap (λ (g : GroupState). group_with_entries g rest) c.in_ok-absorb_copies.ensures ∙ ap (group_with_entries c.loop-key.group) (sym more) ∙ c.loop-key.invariant.joined;
    }

pub returns : goal.returns
returns c =
    let none : c.loop-key._key-iterator ≡ [] = rest_all (deref_pair {K = PackedKey} {X = GroupState}) c.loop-key._key-iterator c.next.new.self c.next.result c.in-None.is c.next.ensures.steps in
    ap (group_with_entries c.loop-key.group) (sym none) ∙ c.loop-key.invariant.joined
