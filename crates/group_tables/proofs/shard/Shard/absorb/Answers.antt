use Rattle.std.proofs.Common.{◌≡◌, ◌∷◌, Option, IfSome, ap, sym, subst, ◌∙◌}
use Rattle.group_tables.specs.declared.packed_key.PackedKey.{PackedKey}
use Rattle.group_tables.specs.Keys.{key_in}
use Rattle.std.proofs.lemmas.Map.Iter.{rest_more}
use Rattle.std.proofs.lemmas.Map.Keys.{IsDistinct-tail}
use Rattle.std.specs.FinMap.{get, find, get-from_entries}
use Rattle.std.specs.List.{IsDistinct}
use Rattle.std.specs.Map.{keys_of}
use Rattle.semantics.specs.Groups.{Key, key_order}
use Rattle.group_tables.specs.Group.{GroupState}
use Rattle.group_tables.specs.Shards.{contents_in}
use Rattle.group_tables.specs.Table.{IsFitting, joint_option, entries_by_key}
use Rattle.group_tables.proofs.Order.{key_total}
use Rattle.group_tables.proofs.Entries.{key_eq, merged_step, fits_step, find-first}
use Rattle.group_tables.proofs.shard.Shard.absorb.Goals as goal

pub loop-key-init : goal.loop-key-init
loop-key-init c =
    let g = c.into_iter-key-iterator.ensures.into_iter_gives in
    let at : (k : Key) → find key_order k (entries_by_key c.into_iter-key-iterator.result) ≡ get (contents_in c.args.other) k =
    λ k. ap (λ es. find key_order k (entries_by_key es)) g.0 ∙ sym (get-from_entries key_total (entries_by_key c.args.other.groups.entries) k) in
    record {
      joined = λ k. ap (joint_option (get (contents_in c.args.self.now) k)) (at k);
      fits = λ k. subst (λ (o : Option GroupState). IfSome o (λ p. IsFitting p (get (contents_in c.args.self.now) k))) (sym (at k)) (c.requires k);
      distinct = subst (λ es. IsDistinct key_eq (keys_of es)) (sym g.0) g.4;
    }

-- the rest begins with this turn's entry
more : (c : goal.After-put_group-arg-1) → c.loop-key.key-iterator ≡ (c.in-Some.key, c.in-Some.part) ∷ c.next.new.self
more c = rest_more (λ (x : PackedKey × GroupState). x) c.loop-key.key-iterator c.next.new.self c.next.result (c.in-Some.key, c.in-Some.part) c.in-Some.is c.next.ensures.steps

pub put_group-requires : goal.put_group-requires
put_group-requires c =
    let k = key_in c.in-Some.key in
    let e : PackedKey × GroupState = (c.in-Some.key, c.in-Some.part) in
    subst (λ (o : Option GroupState). IfSome o (λ p. IsFitting p (get (contents_in c.loop-key.self) k)))
    (ap (λ es. find key_order k (entries_by_key es)) (more c) ∙ find-first e c.next.new.self)
    (c.loop-key.invariant.fits k)

pub loop-key-preserved : goal.loop-key-preserved
loop-key-preserved c =
    let rest = c.next.new.self in
    let e : PackedKey × GroupState = (c.in-Some.key, c.in-Some.part) in
    let is : c.loop-key.key-iterator ≡ e ∷ rest = rest_more (λ (x : PackedKey × GroupState). x) c.loop-key.key-iterator rest c.next.result e c.in-Some.is c.next.ensures.steps in
    let d : IsDistinct key_eq (keys_of (e ∷ rest)) = subst (λ es. IsDistinct key_eq (keys_of es)) is c.loop-key.invariant.distinct in
    let old = contents_in c.loop-key.self in
    let new = contents_in c.put_group.new.self in
    record {
      joined = λ k. merged_step old new k e rest d (c.in_ok-put_group.ensures.put k)
          ∙ ap (λ es. joint_option (get old k) (find key_order k (entries_by_key es))) (sym is) ∙ c.loop-key.invariant.joined k;
      fits = λ k. fits_step old new k e rest d (c.in_ok-put_group.ensures.put k)
          (subst (λ es. IfSome (find key_order k (entries_by_key es)) (λ p. IsFitting p (get old k))) is (c.loop-key.invariant.fits k));
      distinct = IsDistinct-tail key_eq e.0 (keys_of rest) d;
    }
