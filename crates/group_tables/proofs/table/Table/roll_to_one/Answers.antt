use Rattle.std.proofs.Common.{◌≡◌, ◌+◌, ◌++◌, [], List, Option, drop, arith, sym, ap, subst, ◌∙◌}
use Rattle.std.proofs.lemmas.List.{drop_more, drop_all}
use Rattle.std.specs.List.{IsDistinct}
use Rattle.std.specs.Map.{keys_of}
use Rattle.std.specs.FinMap as fin
use Rattle.group_tables.specs.Keys.{key_in}
use Rattle.semantics.specs.Groups.{Key, key_order}
use Rattle.group_tables.specs.Group.{GroupState}
use Rattle.group_tables.specs.Inside.Group.{no_group}
use Rattle.group_tables.specs.Shards.{AreApart, all_entries, contents_of_shards, entries_in}
use Rattle.group_tables.specs.Table.{Contents, IsFitting, contents_of}
use Rattle.group_tables.specs.Inside.Table.{IsPut, TakesEach, group_with_entries}
use Rattle.group_tables.specs.declared.shard.Shard.{Shard}
use Rattle.group_tables.proofs.Entries.{Entries, key_eq}
use Rattle.group_tables.proofs.Counted.{counted-one, takes-few}
use Rattle.group_tables.proofs.Rolling.{group_with_entries-append, rolled-to_one, takes-append, whole-one}
use Rattle.group_tables.proofs.Shards.{distinct-all}
use Rattle.group_tables.proofs.Typed.{one-typed}
use Rattle.group_tables.proofs.table.Table.roll_to_one.Goals as goal

distinct-read : (shards inside : List Shard) → shards ≡ inside → AreApart inside → IsDistinct key_eq (keys_of (all_entries shards))
distinct-read shards inside is apart = subst (λ (ss : List Shard). IsDistinct key_eq (keys_of (all_entries ss))) (sym is) (distinct-all inside apart)

pub loop-shard-init : goal.loop-shard-init
loop-shard-init c =
    let shards : List Shard = c.deref-shard-items.result.now in
    let is : shards ≡ c.self.inside.shards.items = c.deref-shard-items.ensures.value in
    let es : Entries = all_entries shards in
    let fs = c.args.functions.now in
    let view : contents_of es ≡ c.args.self.now = ap contents_of_shards is ∙ c.self.view_is in
    let distinct : IsDistinct key_eq (keys_of es) = distinct-read shards c.self.inside.shards.items is c.self.inside.apart in
    record {
      takes = subst (λ (g : GroupState). TakesEach g es) (sym c.in_ok-group.ensures)
          (takes-few 9223372036854775807 fs c.args.self.now es (omega arith) view distinct c.requires.few);
      joined = ap (λ (g : GroupState). group_with_entries g es) c.in_ok-group.ensures;
    }

pub put_copies_to-requires : goal.put_copies_to-requires
put_copies_to-requires c =
    let shards : List Shard = c.deref-shard-items.result.now in
    let index = c.loop-shard.shard-index in
    let here : Entries = entries_in c.shard-item.result in
    let others : Entries = all_entries (drop (index + 1) shards) in
    let left : all_entries (drop index shards) ≡ here ++ others =
    ap all_entries (drop_more shards index c.shard-item.result c.loop-shard-test.true) ∙ ap (λ (es : Entries). es ++ others) (ap entries_in (sym c.shard-item.is)) in
    (takes-append c.loop-shard.group here others (subst (λ (es : Entries). TakesEach c.loop-shard.group es) left c.loop-shard.invariant.takes)).0

pub loop-shard-preserved : goal.loop-shard-preserved
loop-shard-preserved c =
    let shards : List Shard = c.deref-shard-items.result.now in
    let index = c.loop-shard.shard-index in
    let old = c.loop-shard.group in
    let here : Entries = entries_in c.shard-item.result in
    let others : Entries = all_entries (drop (index + 1) shards) in
    let left : all_entries (drop index shards) ≡ here ++ others =
    ap all_entries (drop_more shards index c.shard-item.result c.loop-shard-test.true) ∙ ap (λ (es : Entries). es ++ others) (ap entries_in (sym c.shard-item.is)) in
    let takes = takes-append old here others (subst (λ (es : Entries). TakesEach old es) left c.loop-shard.invariant.takes) in
    record {
      takes = subst (λ (g : GroupState). TakesEach g others) (sym c.in_ok-put_copies_to.ensures) takes.1;
      joined = ap (λ (g : GroupState). group_with_entries g others) c.in_ok-put_copies_to.ensures ∙ sym (group_with_entries-append old here others)
          ∙ ap (group_with_entries old) (sym left) ∙ c.loop-shard.invariant.joined;
    }

pub put_to_group-requires : goal.put_to_group-requires
put_to_group-requires c =
    let k = key_in c.empty.result in
    let part = c.loop-shard.group in
    subst (λ (t : Contents). IsFitting part (fin.get t k)) (sym c.in_ok-one.ensures)
    (subst (λ (o : Option GroupState). IsFitting part o) (sym (fin.get-empty key_order k)) tt)

pub returns : goal.returns
returns c =
    let shards : List Shard = c.deref-shard-items.result.now in
    let is : shards ≡ c.self.inside.shards.items = c.deref-shard-items.ensures.value in
    let es : Entries = all_entries shards in
    let fs = c.args.functions.now in
    let group = c.loop-shard.group in
    let old = c.in_ok-one.one in
    let new = c.put_to_group.new.self in
    let view : contents_of es ≡ c.args.self.now = ap contents_of_shards is ∙ c.self.view_is in
    let distinct : IsDistinct key_eq (keys_of es) = distinct-read shards c.self.inside.shards.items is c.self.inside.apart in
    let none : all_entries (drop c.loop-shard.shard-index shards) ≡ [] = ap all_entries (drop_all c.loop-shard.shard-index shards c.loop-shard-test.false) in
    let whole : group ≡ group_with_entries (no_group fs) es = ap (group_with_entries group) (sym none) ∙ c.loop-shard.invariant.joined in
    let put : (k : Key) → IsPut fin.empty new [] (group_with_entries (no_group fs) es) k =
    λ k. subst (λ (t : Contents). IsPut t new [] (group_with_entries (no_group fs) es) k) c.in_ok-one.ensures
    (subst (λ (key : Key). IsPut old new key (group_with_entries (no_group fs) es) k) c.empty.ensures
    (subst (λ (g : GroupState). IsPut old new (key_in c.empty.result) g k) whole (c.in_ok-put_to_group.ensures k))) in
    record {
      rolled = λ finer filters rows table. rolled-to_one finer fs filters c.args.self.now new es rows view distinct table put;
      counted = counted-one fs c.args.self.now new es view distinct put;
      typed = λ finer. one-typed finer fs c.args.self.now new es view distinct put;
      whole = whole-one new (group_with_entries (no_group fs) es) put;
    }
