use Rattle.std.proofs.Common.{ap, ◌∙◌}
use Rattle.std.specs.Ordering.{is_gt}
use Rattle.group_tables.proofs.Firsts.{above-shown}
use Rattle.group_tables.proofs.extreme.is_greater.Goals as goal

pub returns-in_default : goal.returns-in_default
returns-in_default c = c.is_gt.ensures ∙ ap is_gt c.order.ensures.place ∙ above-shown c.args.value.now c.args.other.now c.in_default.not-Null-0 c.in_default.not-Null-1
