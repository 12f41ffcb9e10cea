-- What the getter of a flag reads.
use Rattle.std.proofs.Common.{◌≡◌, ◌↔◌, subst, sym, true, Bool, List, Some, codes}
use Rattle.clap.specs.declared.parser.matches.ArgMatches.{ArgMatches}
use Rattle.clap.specs.Words.{App, HasMatchesOf, Text, found_of, one_text}
use Rattle.semantics.specs.CommandLine.{IsSet, command}
use Rattle.jlreport_cli.proofs.Numbers.{one_of-matches}

-- a flag that reads as set is set by what clap publishes, and no other
pub IsSet-read : (app : App) (words : List Text) (m : ArgMatches) (name : Text) (set : Bool)
    → app ≡ command → HasMatchesOf app words m
    → ((set ≡ true) ↔ (one_text (found_of m) name ≡ Some (codes "true")))
    → (set ≡ true) ↔ IsSet name words
IsSet-read app words m name set is has read =
    subst (λ text. (set ≡ true) ↔ (text ≡ Some (codes "true"))) (sym (one_of-matches app words m name is has)) read
