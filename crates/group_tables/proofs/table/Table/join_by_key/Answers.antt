use Rattle.std.proofs.Common.{◌≡◌, ◌∷◌, [], List, Option, IfSome, length, refl, ap, sym, subst, ◌∙◌, arith}
use Rattle.std.specs.FinMap.{get, find, get-from_entries}
use Rattle.std.specs.List.{IsDistinct}
use Rattle.std.specs.Map.{keys_of}
use Rattle.semantics.specs.Groups.{Key, key_order}
use Rattle.group_tables.specs.Group.{GroupState}
use Rattle.group_tables.specs.Inside.Keys.{key_eq}
use Rattle.group_tables.specs.Shards.{all_entries}
use Rattle.group_tables.specs.Table.{Contents, IsFitting, joint_option, entries_by_key}
use Rattle.group_tables.specs.declared.shard.Shard.{Shard}
use Rattle.group_tables.proofs.Entries.{options-none}
use Rattle.group_tables.proofs.Order.{key_total}
use Rattle.group_tables.proofs.Shards.{can_join-first, distinct-all, distinct-rest, fits-first, joined-first}
use Rattle.group_tables.proofs.table.Table.join_by_key.Goals as goal

pub loop-shard-init : goal.loop-shard-init
loop-shard-init c =
    let ss : List Shard = c.other.inside.shards.items in
    let left : List Shard = c.into_iter-shard-iterator.result.rest.items in
    let is : left ≡ ss = c.into_iter-shard-iterator.ensures.into_iter_gives.0 in
    let at : (k : Key) → find key_order k (entries_by_key (all_entries left)) ≡ get c.args.other k =
    λ k. ap (λ (xs : List Shard). find key_order k (entries_by_key (all_entries xs))) is ∙ sym (get-from_entries key_total (entries_by_key (all_entries ss)) k) ∙ ap (λ (t : Contents). get t k) c.other.view_is in
    record {
      joined = λ k. ap (joint_option (get c.args.self k)) (at k);
      fits = λ k. subst (λ (o : Option GroupState). IfSome o (λ p. IsFitting p (get c.args.self k))) (sym (at k)) (c.requires k);
      distinct = subst (λ (xs : List Shard). IsDistinct key_eq (keys_of (all_entries xs))) (sym is) (distinct-all ss c.other.inside.apart);
    }

pub absorb_shard-requires : goal.absorb_shard-requires
absorb_shard-requires c =
    let s : Shard = c.in-Some.shard in
    let rest : List Shard = c.next.new.self.rest.items in
    let is : c.loop-shard.shard-iterator.rest.items ≡ s ∷ rest = c.in-Some.ensures.steps.0 in
    can_join-first c.loop-shard.joined s rest
    (λ k. subst (λ (xs : List Shard). IfSome (find key_order k (entries_by_key (all_entries xs))) (λ p. IsFitting p (get c.loop-shard.joined k))) is (c.loop-shard.invariant.fits k))

pub loop-shard-preserved : goal.loop-shard-preserved
loop-shard-preserved c =
    let i = c.loop-shard.invariant in
    let old = c.loop-shard.joined in
    let new = c.absorb_shard.new.self in
    let s : Shard = c.in-Some.shard in
    let rest : List Shard = c.next.new.self.rest.items in
    let is : c.loop-shard.shard-iterator.rest.items ≡ s ∷ rest = c.in-Some.ensures.steps.0 in
    let d : IsDistinct key_eq (keys_of (all_entries (s ∷ rest))) = subst (λ (xs : List Shard). IsDistinct key_eq (keys_of (all_entries xs))) is i.distinct in
    record {
      joined = λ k. joined-first old new k s rest d (c.in_ok-absorb_shard.ensures k)
          ∙ ap (λ (xs : List Shard). joint_option (get old k) (find key_order k (entries_by_key (all_entries xs)))) (sym is) ∙ i.joined k;
      fits = λ k. fits-first old new k s rest d (c.in_ok-absorb_shard.ensures k)
          (subst (λ (xs : List Shard). IfSome (find key_order k (entries_by_key (all_entries xs))) (λ p. IsFitting p (get old k))) is (i.fits k));
      distinct = distinct-rest s rest d;
    }

none-left : (ss : List Shard) → length ss ≡ 0 → ss ≡ []
none-left [] e = refl
none-left (s ∷ ss) e = absurd (omega (arith, e))

pub returns : goal.returns
returns c = λ k.
    let left : List Shard = c.loop-shard.shard-iterator.rest.items in
    let many : length left ≡ 0 = let l = c.loop-shard.shard-iterator.rest.ok in let s = c.in-None.ensures.steps in omega (arith, l, s) in
    sym (options-none (get c.loop-shard.joined k))
    ∙ ap (λ (xs : List Shard). joint_option (get c.loop-shard.joined k) (find key_order k (entries_by_key (all_entries xs)))) (sym (none-left left many))
    ∙ c.loop-shard.invariant.joined k
