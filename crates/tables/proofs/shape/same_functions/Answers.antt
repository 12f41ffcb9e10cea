use Rattle.tables.proofs.Shapes.{functions-Decides}
use Rattle.tables.proofs.shape.same_functions.Goals as goal

pub returns : goal.returns
returns c = functions-Decides c.args.functions.now c.args.others.now c.eq.result c.eq.ensures
