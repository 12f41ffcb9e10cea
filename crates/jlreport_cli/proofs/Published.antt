-- What clap publishes of a parse, said of the program's command.
use Rattle.std.proofs.Common.{◌≡◌, ◌∙◌, ap, subst, sym, refl, true, false, List, []}
use Rattle.clap.specs.declared.builder.arg.Arg.{Arg}
use Rattle.clap.specs.declared.error.Error.{Error}
use Rattle.clap.specs.declared.parser.matches.ArgMatches.{ArgMatches}
use Rattle.clap.specs.Words.{App, HasKind, HasMatchesOf, Text, fault_of, first_of, first_value, found_of, is_simple, is_simple_and_free, matches_of, rows_of, rule_of, with_rule}
use Rattle.clap.proofs.OnLiterals.{clap_on_literals}
use Rattle.clap.proofs.WalkLemmas.{first_value-rows}
use Rattle.semantics.specs.CommandLine.{command, value_of}

-- clap publishes the matches of the command
command-is_simple : is_simple command ≡ true
unfolding clap_on_literals
command-is_simple = refl

-- clap publishes the faults of the command
command-is_simple_and_free : is_simple_and_free command ≡ true
unfolding clap_on_literals
command-is_simple_and_free = refl

-- a command that gains the rule of an argument
abbrev pub with_argument : App → Arg → App
with_argument app argument = with_rule app (rule_of argument)

-- no subcommand has the argument
abbrev pub IsLocal : Arg → Type 0
IsLocal argument = argument.global ≡ false

-- the matches are those that clap publishes for the words
pub rows_of-matches : (app : App) (words : List Text) (m : ArgMatches)
    → app ≡ command → HasMatchesOf app words m → rows_of (found_of m) ≡ matches_of command words
rows_of-matches app words m is has = (has (ap is_simple is ∙ command-is_simple)).0 ∙ ap (λ b. matches_of b words) is

-- the value of an argument is the first that the matches have of it
pub value_of-matches : (app : App) (words : List Text) (m : ArgMatches) (name : Text)
    → app ≡ command → HasMatchesOf app words m → value_of name words ≡ first_value (found_of m) name
value_of-matches app words m name is has =
    ap (first_of name) (sym (rows_of-matches app words m is has)) ∙ sym (first_value-rows (found_of m) name)

-- words that give matches have no fault
pub fault_of-taken : (app : App) (words : List Text)
    → app ≡ command → (is_simple_and_free app ≡ true → fault_of app words ≡ []) → fault_of command words ≡ []
fault_of-taken app words is taken =
    ap (λ b. fault_of b words) (sym is) ∙ taken (ap is_simple_and_free is ∙ command-is_simple_and_free)

-- words that give an error have a fault of its kind, or memory ran out
pub HasKind-refused : (app : App) (words : List Text) (e : Error)
    → app ≡ command → (is_simple_and_free app ≡ true → HasKind (fault_of app words) e) → HasKind (fault_of command words) e
HasKind-refused app words e is refused =
    subst (λ b. HasKind (fault_of b words) e) is (refused (ap is_simple_and_free is ∙ command-is_simple_and_free))
