use Rattle.std.proofs.Common.{arith}
use Rattle.group_tables.specs.Keys.{key_in}
use Rattle.group_tables.proofs.Shards.{place-below}
use Rattle.group_tables.proofs.place.place_of.Goals as goal

pub returns-then-count-eq1-clause-place : goal.returns-then-count-eq1-clause-place
returns-then-count-eq1-clause-place c = let below = place-below c.args.count (key_in c.args.key.now) c.requires.some in omega (arith, c.if-count-eq1.true, below)
