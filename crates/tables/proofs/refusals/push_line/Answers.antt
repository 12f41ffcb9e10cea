use Rattle.std.proofs.Common.{◌++◌, ◌∷◌, [], ap, ◌∙◌}
use Rattle.tables.specs.Inside.Refusals.{lines_of_runs}
use Rattle.tables.proofs.Runs.{run-more}
use Rattle.tables.proofs.refusals.push_line.Goals as goal

pub returns : goal.returns
returns c =
    ap lines_of_runs c.in_ok-push.ensures.items
    ∙ run-more c.lengthen_last.new.runs.items _
    ∙ ap (λ rs. lines_of_runs rs ++ (c.args.number, c.args.fault) ∷ []) (c.lengthen_last.ensures.same c.if-lengthen_last.false)
