use Rattle.std.proofs.Common.{subst}
use Rattle.group_tables.specs.Rolled.{AreAmong}
use Rattle.test_partials.proofs.tests.roll.are_grouping_columns.Goals as goal

pub returns : goal.returns
returns c = λ h. subst (AreAmong c.args.set.now) c.grouping.ensures.grouping (c.has_columns.ensures h)
