use Rattle.lines.proofs.Clips.{parts-clip, lines-clip, count-clip, valid-clip, refused-clip}
use Rattle.lines.proofs.laws.clip_law.Goals as goal

pub returns-clause-parts : goal.returns-clause-parts
returns-clause-parts c = parts-clip

pub returns-clause-lines : goal.returns-clause-lines
returns-clause-lines c = lines-clip

pub returns-clause-count : goal.returns-clause-count
returns-clause-count c = count-clip

pub returns-clause-valid : goal.returns-clause-valid
returns-clause-valid c = valid-clip

pub returns-clause-refused : goal.returns-clause-refused
returns-clause-refused c = refused-clip
