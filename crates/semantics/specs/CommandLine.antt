-- The command of the program, and what clap publishes for words under it.
use Rattle.std.specs.Prelude.{◌≡◌, ◌<◌, ◌^◌, ⊤, ℕ, Option, Some, None, ◌≤◌, ◌-◌, List, [], ◌∷◌, fold, true, codes}
use Rattle.std.specs.Str.Parse.{IsNumeral, digits_value, without_leading_plus}
use Rattle.clap.specs.Words.{Text, App, Rule, first_of, matches_of, new_app, new_rule, one_of, with_rule, HasKind, fault_of}
use Rattle.clap.specs.declared.builder.action.ArgAction.TheVariants.{Set, SetTrue}
use Rattle.clap.specs.declared.builder.value_parser.ValueParser.TheVariants.{Unsigned}
use Rattle.semantics.specs.declared.words_fault.WordsFault.{WordsFault}
use Rattle.semantics.specs.declared.words_fault.WordsFault.TheVariants.{Clap, Range, NotUtf8}
use Rattle.semantics.specs.Limits.{most_workers, max_piece_len}

-- The text writes this number, of 64 bits, in decimal digits, before which a plus may stand.
abbrev pub IsNumber : Text → ℕ → Type 0
IsNumber text n =
    IsNumeral 10 (without_leading_plus text)
    × (digits_value 10 (without_leading_plus text) < 2 ^ 64)
    × (n ≡ digits_value 10 (without_leading_plus text))

-- The number that the text writes, if there is a text and it writes one.
abbrev pub IsNumberIn : Option Text → Option ℕ → Type 0
IsNumberIn None None = ⊤
IsNumberIn None (Some n) = ⊥
IsNumberIn (Some text) (Some n) = IsNumber text n
IsNumberIn (Some text) None = (n : ℕ) → IsNumber text n → ⊥

-- 1 to 64 workers, and pieces of 1 to 67,108,864 bytes.
abbrev pub AreInRange : ℕ → ℕ → Type 0
AreInRange workers piece =
    (1 ≤ workers) × (workers ≤ most_workers) × (1 ≤ piece) × (piece ≤ max_piece_len)

-- A word of its own that has to be given.
abbrev pub required_word : Text → Rule
required_word name = record (new_rule name) { value_names = 1; action = Some Set; required = true }

-- An option `--NAME <VALUE>` that has to be given.
abbrev pub required_option : Text → Rule
required_option name = record (required_word name) { long = Some name }

-- An option `--NAME <VALUE>` whose value is a number of 64 bits, with the values that stand where
-- it is not given.
abbrev pub number_option : Text → List Text → Rule
number_option name values =
    record (new_rule name) {
      long = Some name;
      value_names = 1;
      parser = Some (Unsigned 0 (2 ^ 64 - 1));
      defaults = values;
    }

-- A flag `--NAME`, which takes no value.
abbrev pub flag : Text → Rule
flag name = record (new_rule name) { long = Some name; action = Some SetTrue }

-- `jlreport --columns <SPEC> --query <TEXT> [--workers <N>] [--piece <BYTES>] [--max-refused <N>]
-- [--explain] [--partial] [--join] [--progress] <FILE>`, with 4 workers and pieces of 1,048,576
-- bytes if they are not given; `--help` and `--version` ask for a text instead.
abbrev pub command : App
command =
    fold with_rule (record (new_app (codes "jlreport")) {
      top = record (new_app (codes "jlreport")).top { has_version = true };
    }) (
    required_option (codes "columns") ∷ required_option (codes "query")
    ∷ number_option (codes "workers") (codes "4" ∷ [])
    ∷ number_option (codes "piece") (codes "1048576" ∷ [])
    ∷ number_option (codes "max-refused") [] ∷ flag (codes "explain")
    ∷ flag (codes "partial") ∷ flag (codes "join") ∷ flag (codes "progress")
    ∷ required_word (codes "file") ∷ [])

-- The first value that clap publishes for the argument of this name, for words under the command.
abbrev pub value_of : Text → List Text → Option Text
value_of name words = first_of name (matches_of command words)

-- The number that the first value of the argument writes, as the parser of its option reads it;
-- None if it has no value.
abbrev pub IsNumberOf : Text → List Text → Option ℕ → Type 0
IsNumberOf name words = IsNumberIn (one_of name (matches_of command words))

-- The flag of this name is set: the value that clap publishes for it, for words under the command,
-- is `true`.
abbrev pub IsSet : Text → List Text → Type 0
IsSet name words = one_of name (matches_of command words) ≡ Some (codes "true")

-- Clap has no fault of the words, but the number of workers or the size of a piece that they give
-- is out of its range.
abbrev pub IsOutOfRange : List Text → Type 0
IsOutOfRange words =
    (fault_of command words ≡ [])
    × ((workers piece : ℕ)
    → IsNumberOf (codes "workers") words (Some workers)
    → IsNumberOf (codes "piece") words (Some piece)
    → AreInRange workers piece → ⊥)

-- The answer's kind is that of the first fault that clap publishes for the words, or memory ran
-- out; texts are always UTF-8.
abbrev pub IsRefusalOf : List Text → WordsFault → Type 0
IsRefusalOf words (Clap e) = HasKind (fault_of command words) e
IsRefusalOf words Range = IsOutOfRange words
IsRefusalOf words NotUtf8 = ⊥
