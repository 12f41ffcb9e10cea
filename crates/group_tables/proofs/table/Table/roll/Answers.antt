use Rattle.std.proofs.Common.{◌≡◌, ◌+◌, ◌<◌, ◌++◌, [], ◌∷◌, ℕ, arith, List, Some, None, drop, length, map, refl, sym, ap, subst, ◌∙◌}
use Rattle.group_tables.specs.declared.packed_key.PackedKey.{PackedKey}
use Rattle.group_tables.specs.Keys.{key_in}
use Rattle.std.proofs.lemmas.Result.{IfOk-weaker}
use Rattle.std.proofs.lemmas.List.{drop_more, drop_all}
use Rattle.std.proofs.lemmas.Map.Iter.{rest_more, rest_all}
use Rattle.std.specs.List.{IsDistinct, AllByRecursion}
use Rattle.std.specs.Map.{keys_of}
use Rattle.std.specs.Map.Iter.{deref_pair}
use Rattle.std.specs.FinMap as fin
use Rattle.semantics.specs.Groups.{Key, project}
use Rattle.group_tables.specs.Functions.{aggregate_of}
use Rattle.group_tables.specs.Group.{GroupState}
use Rattle.group_tables.specs.Shards.{AreApart, all_entries, contents_of_shards, entries_in}
use Rattle.group_tables.specs.Rolled.{rolled_key}
use Rattle.group_tables.specs.Table.{Contents, IsTableOf, contents_of}
use Rattle.group_tables.specs.Inside.Table.{IsEnlarged, IsFittingNew}
use Rattle.group_tables.specs.Typed.{KeepsTypes}
use Rattle.group_tables.specs.declared.shard.Shard.{Shard}
use Rattle.group_tables.proofs.Entries.{Entries, key_eq}
use Rattle.group_tables.proofs.Counted.{IsCountedWith, counted-end, counted-fitting, counted-start, counted-step, entries-counted, no-groups, parts-counted}
use Rattle.group_tables.proofs.Rolling.{IsRolled, get-each, rolled-step, rolled-all}
use Rattle.group_tables.proofs.Shards.{distinct-all}
use Rattle.group_tables.proofs.Typed.{key-typed, none-typed, parts-typed, rolled-typed}
use Rattle.group_tables.proofs.Walks.{none_left}
use Rattle.group_tables.proofs.table.Table.roll.Goals as goal

distinct-read : (shards inside : List Shard) → shards ≡ inside → AreApart inside → IsDistinct key_eq (keys_of (all_entries shards))
distinct-read shards inside is apart = subst (λ (ss : List Shard). IsDistinct key_eq (keys_of (all_entries ss))) (sym is) (distinct-all inside apart)

pub returns-then-is_empty : goal.returns-then-is_empty
returns-then-is_empty c =
    let none : c.args.set.now ≡ [] = none_left c.args.set.now (let f = c.if-is_empty.ensures in grind (arith, f)) in
    record {
      rolled = IfOk-weaker c.roll_to_one.result _ _
          (λ table h filters rows is. subst (λ (set : List ℕ). IsTableOf set (map (aggregate_of filters) c.args.functions.now) table rows) (sym none) (h c.args.finer.now filters rows is))
          c.roll_to_one.ensures.rolled;
      counted = c.roll_to_one.ensures.counted;
      typed = IfOk-weaker c.roll_to_one.result _ _
          (λ table h. subst (λ (set : List ℕ). KeepsTypes c.args.finer.now c.args.functions.now c.args.self.now set table) (sym none) (h c.args.finer.now))
          c.roll_to_one.ensures.typed;
      whole = IfOk-weaker c.roll_to_one.result _ _ (λ table h. λ empty. h) c.roll_to_one.ensures.whole;
    }

pub loop-shard-init : goal.loop-shard-init
loop-shard-init c =
    let shards : List Shard = c.deref-shard-items.result.now in
    let is : shards ≡ c.self.inside.shards.items = c.deref-shard-items.ensures.value in
    let t = c.args.self.now in
    let set = c.args.set.now in
    let fs = c.args.functions.now in
    let all : Entries = all_entries shards in
    let view : contents_of all ≡ t = ap contents_of_shards is ∙ c.self.view_is in
    let distinct : IsDistinct key_eq (keys_of all) = distinct-read shards c.self.inside.shards.items is c.self.inside.apart in
    let rolled = c.in_ok-rolled.rolled in
    let some : 0 < length set = (let f = c.is_empty.ensures in let g = c.if-is_empty.false in grind (arith, f, g)) in
    let none : (k : Key) → fin.get rolled k ≡ None = no-groups set (map (aggregate_of []) fs) rolled some (c.in_ok-rolled.ensures.empty []) in
    record {
      rolled = λ filters rows is. record { done = []; is_table = c.in_ok-rolled.ensures.empty filters; whole = refl };
      each = get-each all t view distinct;
      counted = λ most counted. counted-start most fs rolled all none (entries-counted most fs t all view distinct counted);
      typed = λ fields have typed. none-typed fields set fs rolled none;
    }

pub loop-key-init : goal.loop-key-init
loop-key-init c =
    let t = c.args.self.now in
    let i = c.loop-shard.invariant in
    let shards : List Shard = c.deref-shard-items.result.now in
    let index = c.loop-shard.shard-index in
    let all : Entries = all_entries shards in
    let entries : Entries = c.into_iter-key-iterator.result in
    let is : entries ≡ entries_in c.shard-item.result = c.into_iter-key-iterator.ensures.into_iter_gives.0 in
    let left : all_entries (drop index shards) ≡ entries ++ all_entries (drop (index + 1) shards) =
    ap all_entries (drop_more shards index c.shard-item.result c.loop-shard-test.true)
    ∙ ap (λ (es : Entries). es ++ all_entries (drop (index + 1) shards)) (ap entries_in (sym c.shard-item.is) ∙ sym is) in
    record {
      rolled = λ filters rows is. subst (λ (es : Entries). IsRolled c.args.finer.now c.args.set.now (map (aggregate_of filters) c.args.functions.now) c.loop-shard.rolled es all rows) left (i.rolled filters rows is);
      each = subst (λ (es : Entries). AllByRecursion (λ e. fin.get t (key_in e.0) ≡ Some e.1) es) left i.each;
      counted = λ most counted. subst (λ (es : Entries). IsCountedWith most c.args.functions.now c.loop-shard.rolled es) left (i.counted most counted);
      typed = i.typed;
    }

pub put_by_key-requires : goal.put_by_key-requires
put_by_key-requires c =
    let shards : List Shard = c.deref-shard-items.result.now in
    let same : shards ≡ c.self.inside.shards.items = c.deref-shard-items.ensures.value in
    let finer = c.args.finer.now in
    let set = c.args.set.now in
    let fs = c.args.functions.now in
    let t = c.args.self.now in
    let i = c.loop-key.invariant in
    let rest : Entries = c.next.new.self in
    let others : Entries = all_entries (drop (c.loop-shard.shard-index + 1) shards) in
    let e : PackedKey × GroupState = (c.in-Some.key.now, c.in-Some.part.now) in
    let more : c.loop-key.key-iterator ≡ e ∷ rest = rest_more (deref_pair {K = PackedKey} {X = GroupState}) c.loop-key.key-iterator rest c.next.result (c.in-Some.key, c.in-Some.part) c.in-Some.is c.next.ensures.steps in
    let each = subst (λ (es : Entries). AllByRecursion (λ e. fin.get t (key_in e.0) ≡ Some e.1) (es ++ others)) more i.each in
    let key = key_in c.in_ok-coarser.coarser in
    subst (λ (m : Contents). IsFittingNew fs e.1 (fin.get m key)) (sym c.take_scratch-scratch.ensures)
    (counted-fitting 9223372036854775807 fs c.loop-key.rolled key e (rest ++ others) (omega arith)
    (parts-counted 9223372036854775807 fs t (key_in e.0) e.1 each.0 c.requires.few)
    (subst (λ (es : Entries). IsCountedWith 9223372036854775807 fs c.loop-key.rolled (es ++ others)) more (i.counted 9223372036854775807 c.requires.few)))

pub loop-key-preserved : goal.loop-key-preserved
loop-key-preserved c =
    let shards : List Shard = c.deref-shard-items.result.now in
    let all : Entries = all_entries shards in
    let finer = c.args.finer.now in
    let set = c.args.set.now in
    let fs = c.args.functions.now in
    let t = c.args.self.now in
    let old = c.loop-key.rolled in
    let new = c.put_by_key.new.self in
    let i = c.loop-key.invariant in
    let rest : Entries = c.next.new.self in
    let others : Entries = all_entries (drop (c.loop-shard.shard-index + 1) shards) in
    let e : PackedKey × GroupState = (c.in-Some.key.now, c.in-Some.part.now) in
    let more : c.loop-key.key-iterator ≡ e ∷ rest = rest_more (deref_pair {K = PackedKey} {X = GroupState}) c.loop-key.key-iterator rest c.next.result (c.in-Some.key, c.in-Some.part) c.in-Some.is c.next.ensures.steps in
    let each = subst (λ (es : Entries). AllByRecursion (λ e. fin.get t (key_in e.0) ≡ Some e.1) (es ++ others)) more i.each in
    let key : key_in c.in_ok-coarser.coarser ≡ rolled_key finer set (key_in e.0) =
    c.in_ok-coarser.ensures ∙ ap (λ places. project places (key_in e.0)) (c.as_slice-indices.ensures.value ∙ c.in_ok-indices.ensures) in
    let enlarged : (k : Key) → IsEnlarged fs old new (rolled_key finer set (key_in e.0)) e.1 k =
    λ k. subst (λ (q : Key). IsEnlarged fs old new q e.1 k) key
    (subst (λ (m : Contents). IsEnlarged fs m new (key_in c.in_ok-coarser.coarser) e.1 k) c.take_scratch-scratch.ensures (c.in_ok-put_by_key.ensures k)) in
    record {
      rolled = λ filters rows is. rolled-step finer set fs filters t old new e (rest ++ others) all rows c.requires.among is each.0
          enlarged
          (subst (λ (es : Entries). IsRolled finer set (map (aggregate_of filters) fs) old (es ++ others) all rows) more (i.rolled filters rows is));
      each = each.1;
      counted = λ most counted. counted-step most fs old new (rolled_key finer set (key_in e.0)) e (rest ++ others) enlarged
          (subst (λ (es : Entries). IsCountedWith most fs old (es ++ others)) more (i.counted most counted));
      typed = λ fields have typed. rolled-typed fields finer set fs old new (key_in e.0) e.1 c.requires.among have
          (key-typed fields finer fs t (key_in e.0) e.1 each.0 typed) (parts-typed fields finer fs t (key_in e.0) e.1 each.0 typed)
          enlarged (i.typed fields have typed);
    }

pub loop-shard-preserved : goal.loop-shard-preserved
loop-shard-preserved c =
    let t = c.args.self.now in
    let i = c.loop-key.invariant in
    let shards : List Shard = c.deref-shard-items.result.now in
    let others : Entries = all_entries (drop (c.loop-shard.shard-index + 1) shards) in
    let none = rest_all (deref_pair {K = PackedKey} {X = GroupState}) c.loop-key.key-iterator c.next.new.self c.next.result c.in-None.is c.next.ensures.steps in
    record {
      rolled = λ filters rows is. subst (λ (es : Entries). IsRolled c.args.finer.now c.args.set.now (map (aggregate_of filters) c.args.functions.now) c.loop-key.rolled (es ++ others) (all_entries shards) rows) none (i.rolled filters rows is);
      each = subst (λ (es : Entries). AllByRecursion (λ e. fin.get t (key_in e.0) ≡ Some e.1) (es ++ others)) none i.each;
      counted = λ most counted. subst (λ (es : Entries). IsCountedWith most c.args.functions.now c.loop-key.rolled (es ++ others)) none (i.counted most counted);
      typed = i.typed;
    }

pub returns : goal.returns
returns c =
    let shards : List Shard = c.deref-shard-items.result.now in
    let same : shards ≡ c.self.inside.shards.items = c.deref-shard-items.ensures.value in
    let index = c.loop-shard.shard-index in
    let none : all_entries (drop index shards) ≡ [] = ap all_entries (drop_all index shards c.loop-shard-test.false) in
    record {
      rolled = λ filters rows is. rolled-all c.args.finer.now c.args.set.now (map (aggregate_of filters) c.args.functions.now) c.args.self.now c.loop-shard.rolled (all_entries (drop index shards)) (all_entries shards) rows
          (ap contents_of_shards same ∙ c.self.view_is) (distinct-read shards c.self.inside.shards.items same c.self.inside.apart)
          none is (c.loop-shard.invariant.rolled filters rows is);
      counted = λ most counted. counted-end most c.args.functions.now c.loop-shard.rolled (all_entries (drop index shards)) none
          (c.loop-shard.invariant.counted most counted);
      typed = c.loop-shard.invariant.typed;
      whole = λ empty. (let f = c.is_empty.ensures in let g = c.if-is_empty.false in let e = ap length empty in absurd (grind (arith, f, g, e)));
    }
