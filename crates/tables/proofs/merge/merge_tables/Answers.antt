use Rattle.tables.proofs.EitherWay.{both-either_way}
use Rattle.tables.proofs.merge.merge_tables.Goals as goal

pub returns : goal.returns
returns g c =
    record { merged = both-either_way c.args.first c.args.second c.put_larger_first-larger.result c.absorb.new.self c.put_larger_first-larger.ensures c.requires.mergeable c.in_ok-absorb.ensures }
