-- What the words gave for the name of an argument.
use Rattle.std.specs.Prelude.{ℕ, Option}
use Rattle.clap.specs.declared.parser.matches.ArgMatches.{ArgMatches}
use Rattle.clap.specs.Words.{Text, found_of, one_text}
use Rattle.semantics.specs.CommandLine.{IsNumberIn}

-- Under this name the words gave this number, or gave none.
abbrev pub IsNumberAt : ArgMatches → Text → Option ℕ → Type 0
IsNumberAt matches name number = IsNumberIn (one_text (found_of matches) name) number
