use Rattle.std.proofs.Common.{IfOk, get_or, sym, subst, arith}
use Rattle.group_tables.specs.Inside.GroupsOfShards.{AreGroupsOfShard}
use Rattle.group_tables.specs.declared.shard.Shard.{Shard}
use Rattle.group_tables.proofs.InParts.{finished-each}
use Rattle.group_tables.proofs.finish.parts_among.Goals as goal

pub returns : goal.returns
returns g c =
    let shards = c.args.shards.items in
    let parts = c.in_ok-parts.parts.items in
    let n = c.in_ok-parts.ensures.len in
    let a = c.in_ok-parts.parts.ok in
    let b = c.args.shards.ok in
    finished-each shards parts (omega (arith, n, a, b))
    (λ i d e l.
    let k = (c.in_ok-parts.ensures.each i d l).1 in
    subst (λ (s : Shard). IfOk (get_or parts i d) (λ groups. AreGroupsOfShard s groups.items)) (sym (k.job_is e)) k.call.met)
