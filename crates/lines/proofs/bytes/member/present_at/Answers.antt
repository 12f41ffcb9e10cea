use Rattle.lines.proofs.bytes.member.present_at.Goals as goal

pub returns-in-Int : goal.returns-in-Int
returns-in-Int c = rw (c.in-Int.is, ← c.as_bytes.ensures.value) c.int_at.ensures
