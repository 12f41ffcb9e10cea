use Rattle.std.proofs.Common.{◌∙◌, refl, rules, Some, codes}
use Rattle.clap.specs.Walk.{texts}
use Rattle.clap.specs.Words.{HasKind, fault_of}
use Rattle.semantics.specs.CommandLine.{command}
use Rattle.jlreport_cli.proofs.Flags.{IsSet-read}
use Rattle.jlreport_cli.proofs.Numbers.{IsNumberIn-published, IsNumberOf-read}
use Rattle.jlreport_cli.proofs.Published.{HasKind-refused, fault_of-taken, value_of-matches}
use Rattle.jlreport_cli.proofs.Required.{first_value-required}
use Rattle.jlreport_cli.proofs.command.settings.Goals as goal

pub text_of-requires : goal.text_of-requires
text_of-requires c = first_value-required _ c.in_ok-matches.matches (codes "columns") 0 c.in_ok-command.ensures.ok c.in_ok-matches.ensures.parsed refl

pub text_of-requires-2 : goal.text_of-requires-2
text_of-requires-2 c = first_value-required _ c.in_ok-matches.matches (codes "query") 1 c.in_ok-command.ensures.ok c.in_ok-matches.ensures.parsed refl

pub text_of-requires-3 : goal.text_of-requires-3
text_of-requires-3 c = first_value-required _ c.in_ok-matches.matches (codes "file") 9 c.in_ok-command.ensures.ok c.in_ok-matches.ensures.parsed refl

pub returns-clause-columns : goal.returns-clause-columns
returns-clause-columns c =
    value_of-matches _ (texts c.args.words.now) _ (codes "columns") c.in_ok-command.ensures.ok c.in_ok-matches.ensures.matches ∙ c.text_of.ensures

pub returns-clause-query : goal.returns-clause-query
returns-clause-query c =
    value_of-matches _ (texts c.args.words.now) _ (codes "query") c.in_ok-command.ensures.ok c.in_ok-matches.ensures.matches ∙ c.text_of-2.ensures

pub returns-clause-file : goal.returns-clause-file
returns-clause-file c =
    value_of-matches _ (texts c.args.words.now) _ (codes "file") c.in_ok-command.ensures.ok c.in_ok-matches.ensures.matches ∙ c.text_of-3.ensures

pub returns-clause-piece : goal.returns-clause-piece
returns-clause-piece c =
    IsNumberOf-read _ (texts c.args.words.now) _ (codes "piece") _ c.in_ok-command.ensures.ok c.in_ok-matches.ensures.matches c.in-Some.ensures.piece

pub returns-clause-workers : goal.returns-clause-workers
returns-clause-workers c =
    IsNumberOf-read _ (texts c.args.words.now) _ (codes "workers") _ c.in_ok-command.ensures.ok c.in_ok-matches.ensures.matches c.in-Some.ensures.workers

pub returns-clause-max_refused : goal.returns-clause-max_refused
returns-clause-max_refused c =
    IsNumberOf-read _ (texts c.args.words.now) _ (codes "max-refused") _ c.in_ok-command.ensures.ok c.in_ok-matches.ensures.matches c.in-Some.ensures.max_refused

pub returns-clause-explain : goal.returns-clause-explain
returns-clause-explain c =
    IsSet-read _ (texts c.args.words.now) _ (codes "explain") c.is_set.result c.in_ok-command.ensures.ok c.in_ok-matches.ensures.matches c.is_set.ensures

pub returns-clause-partial : goal.returns-clause-partial
returns-clause-partial c =
    IsSet-read _ (texts c.args.words.now) _ (codes "partial") c.is_set-2.result c.in_ok-command.ensures.ok c.in_ok-matches.ensures.matches c.is_set-2.ensures

pub returns-clause-join : goal.returns-clause-join
returns-clause-join c =
    IsSet-read _ (texts c.args.words.now) _ (codes "join") c.is_set-3.result c.in_ok-command.ensures.ok c.in_ok-matches.ensures.matches c.is_set-3.ensures

pub returns-clause-progress : goal.returns-clause-progress
returns-clause-progress c =
    IsSet-read _ (texts c.args.words.now) _ (codes "progress") c.is_set-4.result c.in_ok-command.ensures.ok c.in_ok-matches.ensures.matches c.is_set-4.ensures

pub returns-clause-taken : goal.returns-clause-taken
returns-clause-taken c = fault_of-taken _ (texts c.args.words.now) c.in_ok-command.ensures.ok c.in_ok-matches.ensures.kinds

pub returns-in_err-matches-clause-refused : goal.returns-in_err-matches-clause-refused
returns-in_err-matches-clause-refused c =
    let kind : HasKind (fault_of command (texts c.args.words.now)) c.in_err-matches.field-0.0 =
    HasKind-refused _ (texts c.args.words.now) c.in_err-matches.field-0.0 c.in_ok-command.ensures.ok c.in_err-matches.ensures.kinds in
    search rules

pub returns-in_default-clause-refused : goal.returns-in_default-clause-refused
returns-in_default-clause-refused c = (
  fault_of-taken _ (texts c.args.words.now) c.in_ok-command.ensures.ok c.in_ok-matches.ensures.kinds,
  λ workers piece workers_is piece_is inside. c.in_default.ensures.out_of_range refl workers piece
      (IsNumberIn-published _ (texts c.args.words.now) _ (codes "workers") (Some workers) c.in_ok-command.ensures.ok c.in_ok-matches.ensures.matches workers_is)
      (IsNumberIn-published _ (texts c.args.words.now) _ (codes "piece") (Some piece) c.in_ok-command.ensures.ok c.in_ok-matches.ensures.matches piece_is)
      inside,
)
