use Rattle.std.proofs.Common.{◌≡◌, length, subst, sym, arith}
use Rattle.group_tables.specs.Shards.{contents_of_shards}
use Rattle.group_tables.specs.Table.{CanJoin, Contents, IsJoined}
use Rattle.group_tables.proofs.Shards.{all-joined, each-can_join, within-all}
use Rattle.group_tables.proofs.table.Table.join.Goals as goal

pub join_shards-requires-clause-each : goal.join_shards-requires-clause-each
join_shards-requires-clause-each g c =
    let a = c.self.inside in
    let b = c.other.inside in
    let same : length b.shards.items ≡ length a.shards.items = let x = a.shards.ok in let y = b.shards.ok in omega (arith, x, y) in
    each-can_join a.shards.items b.shards.items a.apart b.apart same (within-all a.shards a.some)
    (subst (λ (t : Contents). CanJoin t (contents_of_shards b.shards.items)) (sym c.self.view_is)
    (subst (λ (t : Contents). CanJoin c.args.self t) (sym c.other.view_is) c.requires.join))

pub returns : goal.returns
returns g c = λ k.
    let a = c.self.inside in
    let b = c.other.inside in
    let us = c.in_ok-shards.shards in
    let same : length b.shards.items ≡ length a.shards.items = let x = a.shards.ok in let y = b.shards.ok in omega (arith, x, y) in
    let kept : length us.items ≡ length a.shards.items = let x = a.shards.ok in let y = us.ok in let n = c.in_ok-shards.ensures.count in omega (arith, x, y, n) in
    subst (λ (t : Contents). IsJoined t c.args.other (contents_of_shards us.items) k) c.self.view_is
    (subst (λ (t : Contents). IsJoined (contents_of_shards a.shards.items) t (contents_of_shards us.items) k) c.other.view_is
    (all-joined a.shards.items b.shards.items us.items a.apart b.apart same kept (within-all a.shards a.some) c.in_ok-shards.ensures.joined k))
