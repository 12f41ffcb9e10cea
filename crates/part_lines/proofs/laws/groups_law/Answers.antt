use Rattle.part_lines.proofs.Again.{groups-again, texts-again}
use Rattle.part_lines.proofs.Read.{groups-read, texts-have}
use Rattle.part_lines.proofs.laws.groups_law.Goals as goal

pub returns : goal.returns
returns c = record { again = groups-again; read = groups-read; texts = texts-again c.text_law.ensures.same; values = texts-have c.text_law.ensures.again }
