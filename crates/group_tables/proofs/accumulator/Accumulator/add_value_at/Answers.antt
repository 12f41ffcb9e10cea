use Rattle.std.proofs.Common.{sym, ap, ◌∙◌}
use Rattle.group_tables.specs.Inside.Accumulator.{state_in, with_value}
use Rattle.group_tables.proofs.Keeping.{with_value-null}
use Rattle.group_tables.proofs.accumulator.Accumulator.add_value_at.Goals as goal

pub returns-in-None-clause-added : goal.returns-in-None-clause-added
returns-in-None-clause-added c = sym (ap (with_value (state_in c.args.self.now)) c.in-None.ensures ∙ with_value-null (state_in c.args.self.now))
