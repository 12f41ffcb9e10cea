use Rattle.std.proofs.Common.{◌+◌, ◌<◌, ◌^◌, ◌++◌, map, ap, ◌∙◌}
use Rattle.std.proofs.lemmas.List.Elements.{All-same}
use Rattle.std.proofs.lemmas.Result.{on_ok_weaker}
use Rattle.tables.specs.Inside.Refusals.{lines_of_runs}
use Rattle.tables.proofs.refusals.Refusals.put_behind.Goals as goal

pub put_runs-requires : goal.put_runs-requires
put_runs-requires c =
    All-same (λ line. c.args.before + line.0 < 2 ^ 64) (lines_of_runs c.as_slice.result.now) c.args.more.now (ap lines_of_runs c.as_slice.ensures.value ∙ c.more.view_is) c.requires

pub returns : goal.returns
returns c = on_ok_weaker c.put_runs.result (λ is.
    is
    ∙ ap (λ ls. ls ++ map (λ line. (c.args.before + line.0, line.1)) (lines_of_runs c.as_slice.result.now)) c.self.view_is
    ∙ ap (λ ls. c.args.self.now ++ map (λ line. (c.args.before + line.0, line.1)) ls) (ap lines_of_runs c.as_slice.ensures.value ∙ c.more.view_is)) c.put_runs.ensures
