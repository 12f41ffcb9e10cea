use Rattle.std.proofs.Common.{◌≡◌}
use Rattle.std.specs.Array.Iter.{array_into_iter_items}
use Rattle.std.specs.List.{AllByRecursion, fold}
use Rattle.clap.specs.Words.{app_of}
use Rattle.semantics.specs.CommandLine.{command}
use Rattle.jlreport_cli.proofs.Published.{IsLocal, with_argument}
use Rattle.jlreport_cli.proofs.command.program_command.Given as goal

-- the command so far, and then the arguments that are left
abbrev pub invariant-loop-argument : goal.invariant-loop-argument
invariant-loop-argument l = record {
  whole : fold with_argument (app_of l.command) (array_into_iter_items l.argument-iterator) ≡ command;
  local : AllByRecursion IsLocal (array_into_iter_items l.argument-iterator);
}
