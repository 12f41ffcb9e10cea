use Rattle.std.proofs.Common.{◌≡◌, ◌∙◌, ap, sym, subst, arith, length, get_or, set, Option, Some}
use Rattle.group_tables.specs.Keys.{key_in}
use Rattle.std.proofs.lemmas.Result.{on_ok_weaker}
use Rattle.std.specs.FinMap as fin
use Rattle.semantics.specs.Groups.{Key}
use Rattle.group_tables.specs.Group.{GroupState}
use Rattle.group_tables.specs.Shards.{AreApart, contents_in, contents_of_shards, shard_index}
use Rattle.group_tables.specs.Table.{Contents, IsFitting, joint_option}
use Rattle.group_tables.specs.Inside.Table.{IsPut}
use Rattle.group_tables.specs.declared.shard.Shard.{Shard}
use Rattle.group_tables.proofs.Shards.{all-changed, apart-changed, get-place, within-all}
use Rattle.group_tables.proofs.table.Table.put_to_group.Goals as goal

pub put_group-requires : goal.put_group-requires
put_group-requires c =
    let key = key_in c.args.key in
    let ss = c.self.inside.shards.items in
    let s = c.index_mut.result.now in
    let count : c.len.result ≡ length ss = let l = c.self.inside.shards.ok in omega (arith, l, c.len.ensures) in
    let p : c.place_of-place.result ≡ shard_index (length ss) key = c.place_of-place.ensures.place ∙ ap (λ n. shard_index n key) count in
    let is : s ≡ get_or ss (shard_index (length ss) key) s = c.index_mut.ensures.value ∙ ap (λ n. get_or ss n s) p in
    subst (λ (o : Option GroupState). IsFitting c.args.part o)
    (ap (λ m. fin.get m key) (sym c.self.view_is)
    ∙ get-place ss s key c.self.inside.apart (within-all c.self.inside.shards c.self.inside.some key)
    ∙ ap (λ (x : Shard). fin.get (contents_in x) key) (sym is))
    c.requires

pub invariant_of-self-inside : goal.invariant_of-self-inside
invariant_of-self-inside c =
    let key = key_in c.args.key in
    let ss = c.self.inside.shards.items in
    let s = c.index_mut.result.now in
    let count : c.len.result ≡ length ss = let l = c.self.inside.shards.ok in omega (arith, l, c.len.ensures) in
    let p : c.place_of-place.result ≡ shard_index (length ss) key = c.place_of-place.ensures.place ∙ ap (λ n. shard_index n key) count in
    let is : s ≡ get_or ss (shard_index (length ss) key) s = c.index_mut.ensures.value ∙ ap (λ n. get_or ss n s) p in (
      c.self.inside.some,
      (
        c.self.inside.few,
        (
          subst (λ n. AreApart (set ss n c.put_group.new.self)) (sym p)
              (apart-changed ss s c.put_group.new.self key c.self.inside.apart (within-all c.self.inside.shards c.self.inside.some key) is c.put_group.ensures.others),
          tt,
        ),
      ),
    )

pub returns : goal.returns
returns c =
    let part = c.args.part in
    let key = key_in c.args.key in
    let ss = c.self.inside.shards.items in
    let s = c.index_mut.result.now in
    let new = c.put_group.new.self in
    let count : c.len.result ≡ length ss = let l = c.self.inside.shards.ok in omega (arith, l, c.len.ensures) in
    let p : c.place_of-place.result ≡ shard_index (length ss) key = c.place_of-place.ensures.place ∙ ap (λ n. shard_index n key) count in
    let is : s ≡ get_or ss (shard_index (length ss) key) s = c.index_mut.ensures.value ∙ ap (λ n. get_or ss n s) p in
    on_ok_weaker c.put_group.result
    (λ (h : (k : Key) → IsPut (contents_in s) (contents_in new) key part k). λ (k : Key).
    subst (λ (t : Contents). IsPut t (contents_of_shards (set ss c.place_of-place.result new)) key part k) c.self.view_is
    (subst (λ n. IsPut (contents_of_shards ss) (contents_of_shards (set ss n new)) key part k) (sym p)
    (all-changed (λ o. joint_option o (Some part)) ss s new key c.self.inside.apart (within-all c.self.inside.shards c.self.inside.some) is c.put_group.ensures.others h k)))
    c.put_group.ensures.put
