use Rattle.tables.proofs.Shapes.{texts-Decides}
use Rattle.tables.proofs.shape.same_texts.Goals as goal

pub returns : goal.returns
returns c = texts-Decides c.args.texts.now c.args.others.now c.eq.result c.eq.ensures
