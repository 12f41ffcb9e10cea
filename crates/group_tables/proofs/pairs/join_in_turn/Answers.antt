use Rattle.std.proofs.Common.{List, ◌≡◌, ◌<◌, suc, ◌∷◌, drop, get_or, set, length, inl, inr, sym, ap, subst, ◌∙◌, arith, length-set}
use Rattle.std.proofs.lemmas.Bool.{cases_eq}
use Rattle.std.proofs.lemmas.List.{get_or-set_same, get_or-set_other}
use Rattle.group_tables.specs.Shards.{contents_in}
use Rattle.group_tables.specs.Table.{IsJoined}
use Rattle.group_tables.specs.declared.shard.Shard.{Shard}
use Rattle.group_tables.proofs.Shards.{after-drop, at-drop, defaults}
use Rattle.group_tables.proofs.pairs.join_in_turn.Goals as goal

pub loop-place-preserved : goal.loop-place-preserved
loop-place-preserved c =
    let s = c.in-Some.ensures.steps in
    let i = c.loop-place.invariant in
    let orig = c.args.shards.items in
    let others = c.args.others.items in
    let items = c.loop-place.joined.items in
    let n = c.loop-place.place-iterator.count in
    let place = c.in-Some.place in
    let rest = c.next.new.self.iter.rest.items in
    let new = c.absorb.new.self in
    let e : length c.loop-place.place-iterator.iter.rest.items ≡ suc (length rest) = ap length s.0.0 in
    let at : drop n others ≡ c.in-Some.other ∷ rest = sym i.rest ∙ s.0.0 in
    let next : suc n ≡ c.next.new.self.count = omega (arith, s.1, s.2) in
    let here : place < length items = omega (arith, e, i.count, i.same, s.1) in
    record {
      rest = after-drop n others c.in-Some.other rest at ∙ ap (λ m. drop m others) next;
      count = omega (arith, e, i.count, s.1, s.2);
      same = length-set items place new ∙ i.same;
      left = λ j d l. get_or-set_other items place j new d (λ x. omega (arith, x, l, s.2)) ∙ i.left j d (omega (arith, l, s.1, s.2));
      done = λ j d l k. elim (cases_eq j place) [
        | inl x ↦
            let a : c.index_mut.result.now ≡ get_or orig j d =
            c.index_mut.ensures.value ∙ i.left place c.index_mut.result.now (omega (arith, s.1)) ∙ defaults orig place c.index_mut.result.now d (omega (arith, here, i.same)) ∙ ap (λ m. get_or orig m d) (sym x) in
            let here_too : n ≡ j = omega (arith, s.1, x) in
            let b : c.in-Some.other ≡ get_or others j d = sym (ap (λ (ss : List Shard). get_or ss 0 d) at) ∙ at-drop n others d ∙ ap (λ m. get_or others m d) here_too in
            let w : get_or (set items place new) j d ≡ new = ap (λ m. get_or (set items place new) m d) x ∙ get_or-set_same items place new d here in
            subst (λ (p : Shard). IsJoined (contents_in p) (contents_in (get_or others j d)) (contents_in (get_or (set items place new) j d)) k) a
            (subst (λ (p : Shard). IsJoined (contents_in c.index_mut.result.now) (contents_in p) (contents_in (get_or (set items place new) j d)) k) b
            (subst (λ (p : Shard). IsJoined (contents_in c.index_mut.result.now) (contents_in c.in-Some.other) (contents_in p) k) (sym w) (c.in_ok-absorb.ensures k)))
        | inr x ↦ subst (λ (p : Shard). IsJoined (contents_in (get_or orig j d)) (contents_in (get_or others j d)) (contents_in p) k) (sym (get_or-set_other items place j new d x)) (i.done j d (omega (arith, l, x, s.1, s.2)) k)
      ];
    }
