use Rattle.std.proofs.Common.{◌++◌, ◌∷◌, [], ap, ◌∙◌}
use Rattle.std.proofs.lemmas.Result.{on_ok_weaker}
use Rattle.tables.proofs.refusals.Refusals.push.Goals as goal

pub returns : goal.returns
returns c = on_ok_weaker c.push_line.result (λ is. is ∙ ap (λ ls. ls ++ (c.args.number, c.args.fault) ∷ []) c.self.view_is) c.push_line.ensures
