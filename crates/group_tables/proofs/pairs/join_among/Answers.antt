use Rattle.std.proofs.Common.{ℕ, ◌<◌, ◌++◌, arith, take, drop, get_or, ◌≡◌, ◌∙◌, true, All, List, Vec, Global, length, map, sym, ap, subst}
use Rattle.group_tables.specs.Inside.Pairs.{HasJoined}
use Rattle.group_tables.specs.Inside.Shards.{AreJoined}
use Rattle.group_tables.specs.declared.pairs.Pair.{Pair}
use Rattle.group_tables.specs.declared.shard.Shard.{Shard}
use Rattle.group_tables.proofs.InPairs.{can-join-pairs, joined-pairs, written-over, IfOk-both}
use Rattle.group_tables.proofs.pairs.join_among.Goals as goal

pub join_pairs-requires-clause-each : goal.join_pairs-requires-clause-each
join_pairs-requires-clause-each g c κs within =
    let ps = c.as_mut_slice.result.now in
    let is = c.as_mut_slice.ensures.value in
    can-join-pairs ps c.args.shards.items c.args.others.items (ap (map (λ (p : Pair). p.shard)) is ∙ c.in_ok-pairs.ensures.shards) (ap (map (λ (p : Pair). p.other)) is ∙ c.in_ok-pairs.ensures.others) c.requires.each

pub returns-clause-joined : goal.returns-clause-joined
returns-clause-joined g c =
    let ps = c.as_mut_slice.result.now in
    let is = c.as_mut_slice.ensures.value in
    let n = c.in_ok-pairs.pairs.ok in
    let m = ap length is in
    let same : length c.join_pairs.new.pairs ≡ length ps = c.join_pairs.auto.pairs in
    let qs : List Pair = take c.in_ok-pairs.pairs.len (c.join_pairs.new.pairs ++ drop (length c.join_pairs.new.pairs) c.in_ok-pairs.pairs.items) in
    let are : qs ≡ c.join_pairs.new.pairs = written-over c.in_ok-pairs.pairs.len c.join_pairs.new.pairs c.in_ok-pairs.pairs.items (omega (arith, n, same, m)) in
    IfOk-both (λ (us : Vec Shard Global). us.items ≡ map (λ (p : Pair). p.shard) qs) (λ _. All (λ (p : Pair). p.is_joined ≡ true) qs) (λ us. AreJoined c.args.shards.items c.args.others.items us.items)
    (λ us w all.
    joined-pairs ps qs c.args.shards.items c.args.others.items us.items (ap (map (λ (p : Pair). p.shard)) is ∙ c.in_ok-pairs.ensures.shards) (ap (map (λ (p : Pair). p.other)) is ∙ c.in_ok-pairs.ensures.others)
    w (ap length are ∙ same) (subst (λ (rs : List Pair). (i : ℕ) (e : Pair) → i < length ps → HasJoined (get_or ps i e) (get_or rs i e)) (sym are) c.join_pairs.ensures) all)
    c.shards_of.result c.shards_of.ensures.shards c.shards_of.ensures.joined
