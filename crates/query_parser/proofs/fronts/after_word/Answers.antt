use Rattle.std.proofs.Common.{◌≡◌, ◌==◌, true, refl, eq-eqb, arith, rules}
use Rattle.std.proofs.lemmas.Grind.{common_steps}
use denote.Enum.Bare.{tag_one}
use denote.Enum.Declared.{tag_of}
use Rattle.semantics.specs.contracts.token.Word.{the_type}
use Rattle.query_parser.specs.Inside.Fronts.{word_code}
use Rattle.query_parser.proofs.fronts.after_word.Goals as goal

-- the code compares the numbers of the words: two words with one number are one word
pub returns-in-Word-clause-exact : goal.returns-in-Word-clause-exact
returns-in-Word-clause-exact c =
    let code : tag_of the_type c.in-Word.found ≡ tag_of the_type c.args.word = search rules in
    let same : c.in-Word.found ≡ c.args.word = tag_one the_type (search rules) c.in-Word.found c.args.word code in
    let is : (word_code c.args.word == word_code c.args.word) ≡ true = eq-eqb (word_code c.args.word) (word_code c.args.word) refl in
    grind (arith, common_steps)

pub returns-in_default-clause-exact : goal.returns-in_default-clause-exact
returns-in_default-clause-exact c = grind (arith, common_steps)
