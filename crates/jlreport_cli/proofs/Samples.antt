-- What clap publishes for words that are written out: the clauses on the words are not empty.
use Rattle.std.proofs.Common.{◌≡◌, refl, List, [], ◌∷◌, Some, None, codes}
use Rattle.clap.proofs.OnLiterals.{clap_on_literals}
use Rattle.clap.specs.declared.error.kind.ErrorKind.TheVariants.{DisplayHelp, DisplayVersion, MissingRequiredArgument, TooManyValues, ValueValidation}
use Rattle.clap.specs.Words.{Text, fault_of, matches_of, one_of}
use Rattle.semantics.specs.CommandLine.{IsSet, command, value_of}

-- words that are taken
abbrev words : List Text
words = codes "jlreport" ∷ codes "in.jsonl" ∷ codes "--columns=q:int" ∷ codes "--query" ∷ codes "SELECT q" ∷ []

words-fault : fault_of command words ≡ []
unfolding clap_on_literals
words-fault = refl

words-columns : value_of (codes "columns") words ≡ Some (codes "q:int")
unfolding clap_on_literals
words-columns = refl

words-query : value_of (codes "query") words ≡ Some (codes "SELECT q")
unfolding clap_on_literals
words-query = refl

words-file : value_of (codes "file") words ≡ Some (codes "in.jsonl")
unfolding clap_on_literals
words-file = refl

-- the size of a piece that stands where none is given, and no limit
words-piece : one_of (codes "piece") (matches_of command words) ≡ Some (codes "1048576")
unfolding clap_on_literals
words-piece = refl

-- the number of workers that stands where none is given
words-workers : one_of (codes "workers") (matches_of command words) ≡ Some (codes "4")
unfolding clap_on_literals
words-workers = refl

words-max_refused : one_of (codes "max-refused") (matches_of command words) ≡ None
unfolding clap_on_literals
words-max_refused = refl

-- the flag, which is `false` where it is not given
words-explain : value_of (codes "explain") words ≡ Some (codes "false")
unfolding clap_on_literals
words-explain = refl

-- words that ask for an explanation
abbrev words_for_explanation : List Text
words_for_explanation = codes "jlreport" ∷ codes "--explain" ∷ codes "--columns=a" ∷ codes "--query=b" ∷ codes "f" ∷ []

words_for_explanation-fault : fault_of command words_for_explanation ≡ []
unfolding clap_on_literals
words_for_explanation-fault = refl

words_for_explanation-set : IsSet (codes "explain") words_for_explanation
unfolding clap_on_literals
words_for_explanation-set = refl

words_for_explanation-file : value_of (codes "file") words_for_explanation ≡ Some (codes "f")
unfolding clap_on_literals
words_for_explanation-file = refl

-- words that ask for a join to one part
abbrev words_for_join : List Text
words_for_join = codes "jlreport" ∷ codes "--columns=a" ∷ codes "--join" ∷ codes "--query=b" ∷ codes "f" ∷ codes "--partial" ∷ []

words_for_join-fault : fault_of command words_for_join ≡ []
unfolding clap_on_literals
words_for_join-fault = refl

words_for_join-partial : IsSet (codes "partial") words_for_join
unfolding clap_on_literals
words_for_join-partial = refl

words_for_join-join : IsSet (codes "join") words_for_join
unfolding clap_on_literals
words_for_join-join = refl

-- the flags are `false` where they are not given
words-partial : value_of (codes "partial") words ≡ Some (codes "false")
unfolding clap_on_literals
words-partial = refl

words-join : value_of (codes "join") words ≡ Some (codes "false")
unfolding clap_on_literals
words-join = refl

words-progress : value_of (codes "progress") words ≡ Some (codes "false")
unfolding clap_on_literals
words-progress = refl

-- words that ask to see how far a run is
abbrev words_for_progress : List Text
words_for_progress = codes "jlreport" ∷ codes "--progress" ∷ codes "--columns=a" ∷ codes "--query=b" ∷ codes "f" ∷ []

words_for_progress-fault : fault_of command words_for_progress ≡ []
unfolding clap_on_literals
words_for_progress-fault = refl

words_for_progress-set : IsSet (codes "progress") words_for_progress
unfolding clap_on_literals
words_for_progress-set = refl

-- the file has to be given also there
explained_nothing-fault : fault_of command (codes "jlreport" ∷ codes "--explain" ∷ codes "--columns=a" ∷ codes "--query=b" ∷ []) ≡ MissingRequiredArgument ∷ []
unfolding clap_on_literals
explained_nothing-fault = refl

-- the flag takes no value
flag_value-fault : fault_of command (codes "jlreport" ∷ codes "--explain=true" ∷ codes "--columns=a" ∷ codes "--query=b" ∷ codes "f" ∷ []) ≡ TooManyValues ∷ []
unfolding clap_on_literals
flag_value-fault = refl

-- numbers that are given
abbrev words_with_numbers : List Text
words_with_numbers = codes "jlreport" ∷ codes "--columns=a" ∷ codes "--query=b" ∷ codes "--max-refused=3" ∷ codes "--piece" ∷ codes "7" ∷ codes "f" ∷ []

words_with_numbers-fault : fault_of command words_with_numbers ≡ []
unfolding clap_on_literals
words_with_numbers-fault = refl

words_with_numbers-piece : one_of (codes "piece") (matches_of command words_with_numbers) ≡ Some (codes "7")
unfolding clap_on_literals
words_with_numbers-piece = refl

words_with_numbers-max_refused : one_of (codes "max-refused") (matches_of command words_with_numbers) ≡ Some (codes "3")
unfolding clap_on_literals
words_with_numbers-max_refused = refl

-- a size that is no number
no_number-fault : fault_of command (codes "jlreport" ∷ codes "--columns=a" ∷ codes "--query=b" ∷ codes "--piece=x" ∷ codes "f" ∷ []) ≡ ValueValidation ∷ []
unfolding clap_on_literals
no_number-fault = refl

-- words without a query
without_query-fault : fault_of command (codes "jlreport" ∷ codes "--columns" ∷ codes "q:int" ∷ codes "f" ∷ []) ≡ MissingRequiredArgument ∷ []
unfolding clap_on_literals
without_query-fault = refl

-- words without a file
without_file-fault : fault_of command (codes "jlreport" ∷ codes "--columns" ∷ codes "q:int" ∷ codes "--query=b" ∷ []) ≡ MissingRequiredArgument ∷ []
unfolding clap_on_literals
without_file-fault = refl

-- words that ask for help
help-fault : fault_of command (codes "jlreport" ∷ codes "--help" ∷ []) ≡ DisplayHelp ∷ []
unfolding clap_on_literals
help-fault = refl

-- words that ask for the version, and nothing more is asked of them
version-fault : fault_of command (codes "jlreport" ∷ codes "--version" ∷ []) ≡ DisplayVersion ∷ []
unfolding clap_on_literals
version-fault = refl

version_letter-fault : fault_of command (codes "jlreport" ∷ codes "-V" ∷ []) ≡ DisplayVersion ∷ []
unfolding clap_on_literals
version_letter-fault = refl
