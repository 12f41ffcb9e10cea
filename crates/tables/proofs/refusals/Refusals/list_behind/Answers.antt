use Rattle.std.proofs.Common.{◌+◌, ◌<◌, ◌^◌, ◌++◌, map, ap, ◌∙◌}
use Rattle.std.proofs.lemmas.List.Elements.{All-same}
use Rattle.std.proofs.lemmas.Result.{on_ok_weaker}
use Rattle.tables.specs.Inside.Refusals.{lines_of_runs}
use Rattle.tables.proofs.refusals.Refusals.list_behind.Goals as goal

pub list_runs-requires : goal.list_runs-requires
list_runs-requires c =
    All-same (λ line. c.args.before + line.0 < 2 ^ 64) (lines_of_runs c.as_slice.result.now) c.args.self.now (ap lines_of_runs c.as_slice.ensures.value ∙ c.self.view_is) c.requires

pub returns : goal.returns
returns c = on_ok_weaker c.list_runs.result (λ is.
    is ∙ ap (λ ls. c.args.list.now.items ++ map (λ line. (c.args.before + line.0, line.1)) ls) (ap lines_of_runs c.as_slice.ensures.value ∙ c.self.view_is)) c.list_runs.ensures
