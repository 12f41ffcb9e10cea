use Rattle.tables.proofs.Shapes.{sets-Decides}
use Rattle.tables.proofs.shape.same_sets.Goals as goal

pub returns : goal.returns
returns c = sets-Decides c.args.sets.now c.args.others.now c.eq.result c.eq.ensures
