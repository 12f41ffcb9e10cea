use Rattle.part_lines.proofs.writer.push_value.Goals as goal

pub returns-in-Text-clause-front : goal.returns-in-Text-clause-front
returns-in-Text-clause-front c = rw (c.in-Text.is, ← c.as_str.ensures.value) c.push_string.ensures.front
