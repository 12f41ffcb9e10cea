-- What the getter of a number reads.
use Rattle.std.proofs.Common.{◌≡◌, ◌∙◌, subst, sym, refl, ℕ, List, Option, Some, None, Result, Ok, Err, ap}
use Rattle.std.specs.Str.Parse.{ParsesUnsigned}
use Rattle.clap.specs.declared.parser.matches.ArgMatches.{ArgMatches}
use Rattle.clap.specs.Words.{App, HasMatchesOf, ReadsOne, Text, found_of, matches_of, one_of, one_text}
use Rattle.clap.proofs.WalkLemmas.{one_text-rows}
use Rattle.semantics.specs.CommandLine.{IsNumberIn, IsNumberOf, command}
use Rattle.jlreport_cli.proofs.Published.{rows_of-matches}

-- what the getter answers is the number that the text writes
pub IsNumberIn-read : (E : Type 0) (gives : List ℕ → Result ℕ E → Type 0) (text : Option Text) (n : Option ℕ)
    → (text ≡ None → n ≡ None) → ((t : List ℕ) → text ≡ Some t → ReadsOne gives t n)
    → ((t : List ℕ) (r : Result ℕ E) → gives t r → ParsesUnsigned 64 10 t r)
    → IsNumberIn text n
IsNumberIn-read E gives None n none value parses = subst (IsNumberIn None) (sym (none refl)) tt
IsNumberIn-read E gives (Some t) (Some n) none value parses =
    let read = parses t (Ok n) (value t refl) in (read.0.0, read.0.1, read.1)
IsNumberIn-read E gives (Some t) None none value parses =
    let bad = value t refl in
    λ n is. parses t (Err bad.0) bad.1 (is.0, is.1)

-- the text that the getter reads is the one that clap publishes
pub one_of-matches : (app : App) (words : List Text) (m : ArgMatches) (name : Text)
    → app ≡ command → HasMatchesOf app words m → one_of name (matches_of command words) ≡ one_text (found_of m) name
one_of-matches app words m name is has =
    ap (one_of name) (sym (rows_of-matches app words m is has)) ∙ sym (one_text-rows (found_of m) name)

-- so a number that was read is the one of the argument
pub IsNumberOf-read : (app : App) (words : List Text) (m : ArgMatches) (name : Text) (n : Option ℕ)
    → app ≡ command → HasMatchesOf app words m → IsNumberIn (one_text (found_of m) name) n → IsNumberOf name words n
IsNumberOf-read app words m name n is has read =
    subst (λ text. IsNumberIn text n) (sym (one_of-matches app words m name is has)) read

-- and the other way round
pub IsNumberIn-published : (app : App) (words : List Text) (m : ArgMatches) (name : Text) (n : Option ℕ)
    → app ≡ command → HasMatchesOf app words m → IsNumberOf name words n → IsNumberIn (one_text (found_of m) name) n
IsNumberIn-published app words m name n is has read =
    subst (λ text. IsNumberIn text n) (one_of-matches app words m name is has) read
