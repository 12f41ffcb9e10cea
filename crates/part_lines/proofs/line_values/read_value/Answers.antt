use Rattle.std.proofs.Common.{Some}
use Rattle.part_lines.proofs.Spellings.{tells}
use Rattle.part_lines.proofs.line_values.read_value.Goals as goal

pub returns-in-Some : goal.returns-in-Some
returns-in-Some c = tells c.args.line.now (Some c.in-Some.value) c.in-Some.ensures
